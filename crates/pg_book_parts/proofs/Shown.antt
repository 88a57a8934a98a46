-- What pictures and links in pages are: whole, without sections, and their links lead to pages.
use Rattle.std.proofs.Common.{◌≡◌, ℕ, Bool, true, false, List, [], ◌∷◌, ◌++◌, length, Option}
use Rattle.std.proofs.Common.{Some, None, refl, ◌∙◌, ap, ap₂}
use Rattle.std.specs.Prelude.{codes, slice_get}
use Rattle.std.specs.List.{flat_map, range_with_len}
use Rattle.pg_base.specs.Side.{other}
use Rattle.pg_base.specs.Texts.{Bytes}
use Rattle.pg_base.specs.declared.pair.Pair.{Pair}
use Rattle.pg_base.specs.declared.side.Side.{Side}
use Rattle.pg_cert.specs.declared.node.Body.{Body}
use Rattle.pg_cert.specs.declared.node.Body.TheVariants as bodies
use Rattle.pg_cert.specs.declared.reply.Reply.{Reply}
use Rattle.pg_page.specs.Html.{numbered, worded}
use Rattle.pg_page.specs.declared.attribute.Name.TheVariants as names
use Rattle.pg_page.specs.declared.piece.Piece.{Piece}
use Rattle.pg_page.specs.declared.piece.Piece.TheVariants as pieces
use Rattle.pg_page.specs.declared.tag.LoneTag.TheVariants as lone
use Rattle.pg_page.specs.declared.tag.Tag.TheVariants as tags
use Rattle.pg_picture.specs.declared.paint.Paint.{Paint}
use Rattle.pg_picture.specs.declared.shape.Place.{Place}
use Rattle.pg_picture.specs.declared.shape.Shape.{Shape}
use Rattle.pg_picture.specs.declared.shape.Shape.TheVariants as shapes
use Rattle.pg_places.specs.Courses.{midway}
use Rattle.pg_places.specs.declared.measures.TheConstants.{CELL, HALF}
use Rattle.pg_scene.specs.declared.board.Board.{Board}
use Rattle.pg_scene.specs.declared.board.Board.TheVariants.{Graph, Grid, Laid, Ring, Table}
use Rattle.pg_book_parts.specs.Chapters.{has_page, link_by, link_pieces, number_text, page_id}
use Rattle.pg_book_parts.specs.Chapters.{page_of}
use Rattle.pg_book_parts.specs.Elements.{paragraph}
use Rattle.pg_book_parts.specs.Layouts.{place_at}
use Rattle.pg_book_parts.specs.Origins.{origin_lead, origin_pieces}
use Rattle.pg_book_parts.specs.Pictures.{around_pieces, bent_pieces, bow_pieces, button_pieces}
use Rattle.pg_book_parts.specs.Pictures.{choice_pieces}
use Rattle.pg_book_parts.specs.Pictures.{chosen_pieces, circle_pieces, group_text, input_pieces}
use Rattle.pg_book_parts.specs.Pictures.{letter_pieces, mark_pieces, over_pieces, painted, pair_by}
use Rattle.pg_book_parts.specs.Pictures.{pairs_pieces, ring_by, ring_pieces, side_class}
use Rattle.pg_book_parts.specs.Pictures.{side_letter, square_attributes, stroke_pieces}
unfoldable use Rattle.pg_book_parts.specs.Pictures.{shape_pieces}
use Rattle.pg_book_parts.specs.Words.{act_words}
use Rattle.pg_book_parts.specs.declared.chapter.Chapter.{Chapter}
use Rattle.pg_book_parts.specs.declared.chapter.TheConstants.{MISSING}
use Rattle.pg_book_parts.specs.declared.layout.Layout.{Layout}
use Rattle.pg_book_parts.specs.declared.origins.Origin.{Origin}
use Rattle.pg_book_parts.specs.declared.over.TheConstants.{EDGE_RADIUS, MARK_RADIUS, RING_RADIUS}
use Rattle.pg_book_parts.specs.declared.over.TheConstants.{SQUARE_HALF, SQUARE_SIDE}
use Rattle.pg_book_parts.proofs.Steps.{then_two}
use Rattle.pg_book_parts.proofs.Parts.{each-part, element-part, IsPart, label-part, leads-one}
use Rattle.pg_book_parts.proofs.Parts.{lone-part, no-part, plain-part, said-part, then-part}
use Rattle.pg_book_parts.proofs.Parts.{words-part}

-- ---- pictures

-- both halves of a bow are added
pub bow_steps : (from bend to near far middle : Place) (paint : Paint) (old p q : List Piece)
    → near ≡ midway from bend
    → far ≡ midway bend to
    → middle ≡ midway near far
    → p ≡ old ++ bent_pieces from near middle paint
    → q ≡ p ++ bent_pieces middle far to paint
    → q ≡ old ++ bow_pieces from bend to paint
bow_steps from bend to near far middle paint old p q n f m one two =
    let first = midway from bend in
    let last = midway bend to in
    then_two old p q (bent_pieces from near middle paint) (bent_pieces middle far to paint) one two
    ∙ ap (λ x. old ++ (bent_pieces from x middle paint ++ bent_pieces middle far to paint)) n
    ∙ ap (λ x. old ++ (bent_pieces from first middle paint ++ bent_pieces middle x to paint)) f
    ∙ ap (λ x. old ++ (bent_pieces from first x paint ++ bent_pieces x last to paint))
    (m ∙ ap₂ midway n f)

module _ (ok : Bytes → Type 0) where
  stroke-part : (from to : Place) (paint : Paint) → IsPart ok [] (stroke_pieces from to paint)
  stroke-part from to paint = lone-part ok lone.Line
      (painted paint ∷ numbered names.X1 from.across ∷ numbered names.Y1 from.down
      ∷ numbered names.X2 to.across ∷ numbered names.Y2 to.down ∷ []) refl

  bent-part : (from bend to : Place) (paint : Paint)
      → IsPart ok [] (bent_pieces from bend to paint)
  bent-part from bend to paint =
      let on = midway (midway from bend) (midway bend to) in
      then-part ok [] (stroke_pieces from on paint) (stroke_pieces on to paint)
      (stroke-part from on paint) (stroke-part on to paint)

  bow-part : (from bend to : Place) (paint : Paint) → IsPart ok [] (bow_pieces from bend to paint)
  bow-part from bend to paint =
      let near = midway from bend in
      let far = midway bend to in
      let middle = midway near far in
      then-part ok [] (bent_pieces from near middle paint) (bent_pieces middle far to paint)
      (bent-part from near middle paint) (bent-part middle far to paint)

  pub shape-part : (s : Shape) → IsPart ok [] (shape_pieces s)
  unfolding shape_pieces
  shape-part (shapes.Square corner side paint) = lone-part ok lone.Rect
      (painted paint ∷ numbered names.X corner.across ∷ numbered names.Y corner.down
      ∷ numbered names.Width side ∷ numbered names.Height side ∷ []) refl
  shape-part (shapes.Disc centre radius paint) = lone-part ok lone.Circle
      (painted paint ∷ numbered names.Cx centre.across ∷ numbered names.Cy centre.down
      ∷ numbered names.R radius ∷ []) refl
  shape-part (shapes.Stroke from to paint) = stroke-part from to paint
  shape-part (shapes.Bow from bend to paint) = bow-part from bend to paint
  shape-part (shapes.Words place words paint) = label-part ok tags.Text
      (painted paint ∷ numbered names.X place.across ∷ numbered names.Y place.down ∷ []) words
      refl refl

  circle-part : (class : Bytes) (radius : ℕ) (place : Place)
      → IsPart ok [] (circle_pieces class radius place)
  circle-part class radius place = lone-part ok lone.Circle
      (worded names.Class class ∷ numbered names.Cx place.across ∷ numbered names.Cy place.down
      ∷ numbered names.R radius ∷ []) refl

  around-part : (board : Board) (place : Place) → IsPart ok [] (around_pieces board place)
  around-part (Grid width height) place = lone-part ok lone.Rect
      (worded names.Class (codes "reply") ∷ square_attributes SQUARE_HALF SQUARE_SIDE place) refl
  around-part (Ring points) place = circle-part (codes "reply") RING_RADIUS place
  around-part (Laid chart) place = circle-part (codes "reply") RING_RADIUS place
  around-part (Graph vertices ends terminals bridge) place =
      circle-part (codes "reply") EDGE_RADIUS place
  around-part (Table rows target) place = circle-part (codes "reply") RING_RADIUS place

  letter-part : (side : Side) (place : Place) → IsPart ok [] (letter_pieces side place)
  letter-part side place = label-part ok tags.Text
      (worded names.Class (codes "mark") ∷ numbered names.X place.across
      ∷ numbered names.Y place.down ∷ []) (side_letter side) refl refl

  mark-part : (side : Side) (place : Place) → IsPart ok [] (mark_pieces side place)
  mark-part side place =
      then-part ok [] (circle_pieces (side_class side) MARK_RADIUS place)
      (letter_pieces side place) (circle-part (side_class side) MARK_RADIUS place)
      (letter-part side place)

  input-part : (group label : Bytes) → IsPart ok [] (input_pieces group label)
  input-part group label = lone-part ok lone.Input
      (worded names.Type (codes "radio") ∷ worded names.Name group
      ∷ worded names.AriaLabel label ∷ []) refl

  button-part : (group label : Bytes) (place : Place)
      → IsPart ok [] (button_pieces group label place)
  button-part group label place =
      plain-part ok tags.ForeignObject (square_attributes HALF CELL place) []
      (input_pieces group label) refl refl (input-part group label)

  chosen-part : (layout : Layout) (side : Side) (v answer : ℕ)
      → IsPart ok [] (chosen_pieces layout side v answer)
  chosen-part layout side v answer = plain-part ok tags.G (worded names.Class (codes "chosen") ∷ [])
      [] (mark_pieces (other side) (place_at layout v) ++ mark_pieces side (place_at layout answer))
      refl refl
      (then-part ok [] (mark_pieces (other side) (place_at layout v))
      (mark_pieces side (place_at layout answer)) (mark-part (other side) (place_at layout v))
      (mark-part side (place_at layout answer)))

  choice-part : (layout : Layout) (side : Side) (group : Bytes) (v answer : ℕ)
      → IsPart ok [] (choice_pieces layout side group v answer)
  choice-part layout side group v answer =
      let label = act_words layout (other side) (codes " claims ") v in
      let button = button_pieces group label (place_at layout v) in
      plain-part ok tags.G (worded names.Class (codes "choice") ∷ []) []
      (button ++ chosen_pieces layout side v answer) refl refl
      (then-part ok [] button (chosen_pieces layout side v answer)
      (button-part group label (place_at layout v)) (chosen-part layout side v answer))

  pair-part : (layout : Layout) (side : Side) (page : Bytes) (i : ℕ) (found : Option Pair)
      → IsPart ok [] (pair_by layout side page i found)
  pair-part layout side page i None = no-part ok
  pair-part layout side page i (Some pair) = let group = group_text page i in
      then-part ok [] (choice_pieces layout side group pair.a pair.b)
      (choice_pieces layout side group pair.b pair.a) (choice-part layout side group pair.a pair.b)
      (choice-part layout side group pair.b pair.a)

  pairs-part : (layout : Layout) (side : Side) (page : Bytes) (pairs : List Pair)
      → IsPart ok [] (pairs_pieces layout side page pairs)
  pairs-part layout side page pairs =
      each-part ok (λ i. pair_by layout side page i (slice_get pairs i))
      (λ i. pair-part layout side page i (slice_get pairs i)) (range_with_len 0 (length pairs))

  pub paragraph-part : (words : Bytes) → IsPart ok [] (paragraph words)
  paragraph-part words = label-part ok tags.P [] words refl refl

-- ---- links to the pages of a claim

module _ (ok : Bytes → Type 0) (chapter : Chapter)
    (page_ok : (node : ℕ)
    → has_page chapter node ≡ true
    → ok (page_id chapter (page_of chapter node))) where
  link-by : (node : ℕ) (b : Bool)
      → has_page chapter node ≡ b
      → IsPart ok [] (link_by chapter (page_of chapter node) b)
  link-by node true has =
      let id = page_id chapter (page_of chapter node) in
      let words = codes "page " ++ number_text chapter (page_of chapter node) in
      element-part ok tags.A (worded names.Href id ∷ []) [] [] (pieces.Words words ∷ []) refl
      (leads-one ok id (page_ok node has)) (words-part ok words)
  link-by node false has = words-part ok
      (MISSING.now ++ number_text chapter (page_of chapter node))

  pub link-part : (node : ℕ) → IsPart ok [] (link_pieces chapter node)
  link-part node = link-by node (has_page chapter node) refl

  pub origin-part : (layout : Layout) (found : Option Origin)
      → IsPart ok [] (origin_pieces layout chapter found)
  origin-part layout None = no-part ok
  origin-part layout (Some origin) =
      let link = link_pieces chapter origin.node in
      plain-part ok tags.P (worded names.Class (codes "from") ∷ []) []
      (pieces.Words (origin_lead layout origin) ∷ link) refl refl
      (said-part ok [] (origin_lead layout origin) link (link-part origin.node))

  ring-by : (layout : Layout) (v child : ℕ) (b : Bool)
      → has_page chapter child ≡ b
      → IsPart ok [] (ring_by layout chapter v (page_of chapter child) b)
  ring-by layout v child true has =
      let id = page_id chapter (page_of chapter child) in
      let ring = around_pieces layout.board (place_at layout v) in
      element-part ok tags.A
      (worded names.Href id ∷ worded names.Tabindex (codes "-1") ∷ []) [] [] ring refl
      (leads-one ok id (page_ok child has))
      (around-part ok layout.board (place_at layout v))
  ring-by layout v child false has = no-part ok

  ring-part : (layout : Layout) (v child : ℕ) → IsPart ok [] (ring_pieces layout chapter v child)
  ring-part layout v child = ring-by layout v child (has_page chapter child) refl

  pub over-part : (layout : Layout) (side : Side) (page : ℕ) (body : Body)
      → IsPart ok [] (over_pieces layout side chapter page body)
  over-part layout side page (bodies.Move v child) = ring-part layout v child
  over-part layout side page (bodies.All replies) =
      each-part ok (λ (r : Reply). ring_pieces layout chapter r.point r.child)
      (λ r. ring-part layout r.point r.child) replies
  over-part layout side page (bodies.Pairs pairs) =
      pairs-part ok layout side (page_id chapter page) pairs
  over-part layout side page bodies.Over = no-part ok
  over-part layout side page bodies.Potential = no-part ok
  over-part layout side page (bodies.Trees with_e first second) = no-part ok
  over-part layout side page (bodies.Cuts with_e first second) = no-part ok
  over-part layout side page (bodies.Threat points) = no-part ok
  over-part layout side page (bodies.Weaker child) = no-part ok
