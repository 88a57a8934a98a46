-- Pictures in pages, with links and choices over them.
use Rattle.std.specs.Prelude.{ℕ, ◌-◌, Bool, true, false, List, [], ◌∷◌, ◌++◌, codes, decimal}
use Rattle.std.specs.Prelude.{Option, Some, None, length, slice_get}
use Rattle.std.specs.List.{flat_map, range_with_len}
use Rattle.pg_base.specs.Side.{other}
use Rattle.pg_base.specs.Texts.{Bytes}
use Rattle.pg_base.specs.declared.pair.Pair.{Pair}
use Rattle.pg_base.specs.declared.side.Side.{Side}
use Rattle.pg_base.specs.declared.side.Side.TheVariants.{X, Y}
use Rattle.pg_cert.specs.declared.node.Body.{Body}
use Rattle.pg_cert.specs.declared.node.Body.TheVariants as bodies
use Rattle.pg_cert.specs.declared.reply.Reply.{Reply}
use Rattle.pg_page.specs.Html.{numbered, worded}
use Rattle.pg_page.specs.declared.attribute.Attribute.{Attribute}
use Rattle.pg_page.specs.declared.attribute.Name.TheVariants as names
use Rattle.pg_page.specs.declared.piece.Piece.{Piece}
use Rattle.pg_page.specs.declared.piece.Piece.TheVariants as pieces
use Rattle.pg_page.specs.declared.tag.LoneTag.TheVariants as lone
use Rattle.pg_page.specs.declared.tag.Tag.TheVariants as tags
use Rattle.pg_places.specs.Courses.{midway}
use Rattle.pg_places.specs.declared.measures.TheConstants.{CELL, HALF}
unfoldable use Rattle.pg_picture.specs.Svg.{class_name}
use Rattle.pg_picture.specs.declared.paint.Paint.{Paint}
use Rattle.pg_picture.specs.declared.picture.Picture.{Picture}
use Rattle.pg_picture.specs.declared.shape.Place.{Place}
use Rattle.pg_picture.specs.declared.shape.Shape.{Shape}
use Rattle.pg_picture.specs.declared.shape.Shape.TheVariants as shapes
use Rattle.pg_scene.specs.declared.board.Board.{Board}
use Rattle.pg_scene.specs.declared.board.Board.TheVariants.{Graph, Grid, Laid, Ring, Table}
use Rattle.pg_book_parts.specs.Chapters.{has_page, page_id, page_of}
use Rattle.pg_book_parts.specs.Elements.{element, labelled}
use Rattle.pg_book_parts.specs.Layouts.{place_at}
use Rattle.pg_book_parts.specs.Words.{act_words}
use Rattle.pg_book_parts.specs.declared.chapter.Chapter.{Chapter}
use Rattle.pg_book_parts.specs.declared.layout.Layout.{Layout}
use Rattle.pg_book_parts.specs.declared.over.TheConstants.{EDGE_RADIUS, MARK_RADIUS, RING_RADIUS}
use Rattle.pg_book_parts.specs.declared.over.TheConstants.{SQUARE_HALF, SQUARE_SIDE}
use Rattle.pg_book_parts.specs.declared.shapes.TheConstants.{VIEW_TOP}

-- ---- shapes

-- the class of a paint
abbrev pub painted : Paint → Attribute
painted paint = worded names.Class (class_name paint)

-- a stroke
abbrev pub stroke_pieces : Place → Place → Paint → List Piece
stroke_pieces from to paint = pieces.Lone lone.Line
    (painted paint ∷ numbered names.X1 from.across ∷ numbered names.Y1 from.down
    ∷ numbered names.X2 to.across ∷ numbered names.Y2 to.down ∷ []) ∷ []

-- a part of a bow: two strokes that meet on its curve
abbrev pub bent_pieces : Place → Place → Place → Paint → List Piece
bent_pieces from bend to paint =
    let on = midway (midway from bend) (midway bend to) in
    stroke_pieces from on paint ++ stroke_pieces on to paint

-- a bow: both halves of its curve
abbrev pub bow_pieces : Place → Place → Place → Paint → List Piece
bow_pieces from bend to paint =
    let near = midway from bend in
    let far = midway bend to in
    let middle = midway near far in
    bent_pieces from near middle paint ++ bent_pieces middle far to paint

-- a shape; a bow is four strokes
unfoldable pub shape_pieces : Shape → List Piece
shape_pieces (shapes.Square corner side paint) = pieces.Lone lone.Rect
    (painted paint ∷ numbered names.X corner.across ∷ numbered names.Y corner.down
    ∷ numbered names.Width side ∷ numbered names.Height side ∷ []) ∷ []
shape_pieces (shapes.Disc centre radius paint) = pieces.Lone lone.Circle
    (painted paint ∷ numbered names.Cx centre.across ∷ numbered names.Cy centre.down
    ∷ numbered names.R radius ∷ []) ∷ []
shape_pieces (shapes.Stroke from to paint) = stroke_pieces from to paint
shape_pieces (shapes.Bow from bend to paint) = bow_pieces from bend to paint
shape_pieces (shapes.Words place words paint) = labelled tags.Text
    (painted paint ∷ numbered names.X place.across ∷ numbered names.Y place.down ∷ []) words

-- the part of the plane that a page shows of a picture, but for the room of its title
abbrev pub view_text : Picture → Bytes
view_text p = codes "0 " ++ (decimal VIEW_TOP
    ++ (codes " " ++ (decimal p.width ++ (codes " " ++ decimal (p.height - VIEW_TOP)))))

-- ---- links

-- a circle of that class around a place
abbrev pub circle_pieces : Bytes → ℕ → Place → List Piece
circle_pieces class radius place = pieces.Lone lone.Circle
    (worded names.Class class ∷ numbered names.Cx place.across ∷ numbered names.Cy place.down
    ∷ numbered names.R radius ∷ []) ∷ []

-- a square around a place
abbrev pub square_attributes : ℕ → ℕ → Place → List Attribute
square_attributes half side place =
    numbered names.X (place.across - half) ∷ numbered names.Y (place.down - half)
    ∷ numbered names.Width side ∷ numbered names.Height side ∷ []

-- a square in the cell of a place, which is clicked
abbrev pub clicked_pieces : Place → List Piece
clicked_pieces place = pieces.Lone lone.Rect
    (worded names.Class (codes "reply") ∷ square_attributes SQUARE_HALF SQUARE_SIDE place) ∷ []

-- what is clicked around a place: a square in a cell, else a ring
abbrev pub around_pieces : Board → Place → List Piece
around_pieces (Grid width height) place = clicked_pieces place
around_pieces (Ring points) place = circle_pieces (codes "reply") RING_RADIUS place
around_pieces (Laid chart) place = circle_pieces (codes "reply") RING_RADIUS place
around_pieces (Graph vertices ends terminals bridge) place =
    circle_pieces (codes "reply") EDGE_RADIUS place
around_pieces (Table rows target) place = circle_pieces (codes "reply") RING_RADIUS place

-- a ring around a point that leads to a page, if there is one; the list of links has it too, so
-- the tabulator passes it
abbrev pub ring_by : Layout → Chapter → ℕ → ℕ → Bool → List Piece
ring_by layout chapter v page true = element tags.A
    (worded names.Href (page_id chapter page) ∷ worded names.Tabindex (codes "-1") ∷ [])
    (around_pieces layout.board (place_at layout v))
ring_by layout chapter v page false = []

-- a ring around a point that leads to the page of a node
abbrev pub ring_pieces : Layout → Chapter → ℕ → ℕ → List Piece
ring_pieces layout chapter v child =
    ring_by layout chapter v (page_of chapter child) (has_page chapter child)

-- a ring for each reply
abbrev pub rings_pieces : Layout → Chapter → List Reply → List Piece
rings_pieces layout chapter replies =
    flat_map (λ (r : Reply). ring_pieces layout chapter r.point r.child) replies

-- ---- choices

-- the class of a side's points
abbrev pub side_class : Side → Bytes
side_class X = codes "of-x"
side_class Y = codes "of-y"

-- the letter of a side
abbrev pub side_letter : Side → Bytes
side_letter X = codes "X"
side_letter Y = codes "Y"

-- that letter at a place
abbrev pub letter_pieces : Side → Place → List Piece
letter_pieces side place = labelled tags.Text
    (worded names.Class (codes "mark") ∷ numbered names.X place.across
    ∷ numbered names.Y place.down ∷ []) (side_letter side)

-- a side's mark at a place
abbrev pub mark_pieces : Side → Place → List Piece
mark_pieces side place =
    circle_pieces (side_class side) MARK_RADIUS place ++ letter_pieces side place

-- a button, one of a group
abbrev pub input_pieces : Bytes → Bytes → List Piece
input_pieces group label = pieces.Lone lone.Input (worded names.Type (codes "radio")
    ∷ worded names.Name group ∷ worded names.AriaLabel label ∷ []) ∷ []

-- a button over the cell around a place
abbrev pub button_pieces : Bytes → Bytes → Place → List Piece
button_pieces group label place =
    element tags.ForeignObject (square_attributes HALF CELL place) (input_pieces group label)

-- a point that the other side takes, and the claimer's answer
abbrev pub chosen_pieces : Layout → Side → ℕ → ℕ → List Piece
chosen_pieces layout side v answer = element tags.G (worded names.Class (codes "chosen") ∷ [])
    (mark_pieces (other side) (place_at layout v) ++ mark_pieces side (place_at layout answer))

-- the other side's choice of a point, with what is seen once it is chosen
abbrev pub choice_pieces : Layout → Side → Bytes → ℕ → ℕ → List Piece
choice_pieces layout side group v answer = element tags.G (worded names.Class (codes "choice") ∷ [])
    (button_pieces group (act_words layout (other side) (codes " claims ") v) (place_at layout v)
    ++ chosen_pieces layout side v answer)

-- the two choices of a pair
abbrev pub pair_pieces : Layout → Side → Bytes → Pair → List Piece
pair_pieces layout side group pair =
    choice_pieces layout side group pair.a pair.b ++ choice_pieces layout side group pair.b pair.a

-- the name of a pair's group on a page
abbrev pub group_text : Bytes → ℕ → Bytes
group_text page i = page ++ (codes "-" ++ decimal i)

-- the pair of that number, if there is one
abbrev pub pair_by : Layout → Side → Bytes → ℕ → Option Pair → List Piece
pair_by layout side page i None = []
pair_by layout side page i (Some pair) = pair_pieces layout side (group_text page i) pair

-- pairs
abbrev pub pairs_pieces : Layout → Side → Bytes → List Pair → List Piece
pairs_pieces layout side page pairs =
    flat_map (λ i. pair_by layout side page i (slice_get pairs i)) (range_with_len 0 (length pairs))

-- what is over the picture of a node: the links of a move and of replies, and the choices of pairs
abbrev pub over_pieces : Layout → Side → Chapter → ℕ → Body → List Piece
over_pieces layout side chapter page (bodies.Move v child) =
    ring_pieces layout chapter v child
over_pieces layout side chapter page (bodies.All replies) =
    rings_pieces layout chapter replies
over_pieces layout side chapter page (bodies.Pairs pairs) =
    pairs_pieces layout side (page_id chapter page) pairs
over_pieces layout side chapter page _ = []
