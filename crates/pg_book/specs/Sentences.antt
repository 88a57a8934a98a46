-- What the page of a node says.
use Rattle.std.specs.Prelude.{ℕ, ◌%◌, ◌==◌, if◌then◌else◌, List, [], ◌∷◌, ◌++◌, codes, Option, Some}
use Rattle.std.specs.Prelude.{None, length, slice_get}
use Rattle.std.specs.List.{flat_map, range_with_len}
use Rattle.pg_base.specs.Side.{other}
use Rattle.pg_base.specs.Texts.{Bytes}
use Rattle.pg_base.specs.declared.kind.Kind.{Kind}
use Rattle.pg_base.specs.declared.kind.Kind.TheVariants.{AvoiderEnforcer}
use Rattle.pg_base.specs.declared.side.Side.{Side}
use Rattle.pg_cert.specs.declared.node.Body.{Body}
use Rattle.pg_cert.specs.declared.node.Body.TheVariants as bodies
use Rattle.pg_cert.specs.declared.reply.Reply.{Reply}
use Rattle.pg_page.specs.declared.piece.Piece.{Piece}
use Rattle.pg_page.specs.declared.piece.Piece.TheVariants as pieces
use Rattle.pg_page.specs.declared.tag.Tag.TheVariants as tags
use Rattle.pg_captions.specs.Words.{side_name}
use Rattle.pg_book_parts.specs.Chapters.{link_pieces}
use Rattle.pg_book_parts.specs.Elements.{element, labelled, paragraph}
use Rattle.pg_book_parts.specs.Words.{act_words, point_words, side_words}
use Rattle.pg_book_parts.specs.declared.chapter.Chapter.{Chapter}
use Rattle.pg_book_parts.specs.declared.layout.Layout.{Layout}
use Rattle.pg_book.specs.declared.sentences.TheConstants.{CUTS, OVER, PAIRED, REPLIES, THREATS}
use Rattle.pg_book.specs.declared.sentences.TheConstants.{TREES, WEIGHTS, WEIGHTS_TO_AVOID}

-- a move in strong words
abbrev pub strong_pieces : Layout → Side → ℕ → List Piece
strong_pieces layout side v = labelled tags.Strong [] (act_words layout side (codes " claims ") v)

-- a move, and a link to what follows
abbrev pub move_pieces : Layout → Side → Chapter → ℕ → ℕ → List Piece
move_pieces layout side chapter v child = element tags.P []
    (strong_pieces layout side v ++ (pieces.Words (codes ". Go on: ") ∷ link_pieces chapter child))

-- a point before a link
abbrev pub point_lead : Layout → ℕ → Bytes
point_lead layout v = point_words layout.board v ++ codes ": "

-- a reply, and a link to what follows
abbrev pub reply_pieces : Layout → Chapter → Reply → List Piece
reply_pieces layout chapter reply = element tags.Li []
    (pieces.Words (point_lead layout reply.point) ∷ link_pieces chapter reply.child)

-- the list of replies
abbrev pub list_pieces : Layout → Chapter → List Reply → List Piece
list_pieces layout chapter replies = element tags.Ul []
    (flat_map (reply_pieces layout chapter) replies)

-- replies
abbrev pub replies_pieces : Layout → Side → Chapter → List Reply → List Piece
replies_pieces layout side chapter replies =
    paragraph (side_words layout.kind (other side) REPLIES.now)
    ++ list_pieces layout chapter replies

-- the point of that number of a threat line, from 0: the claimer's points and the forced ones in
-- turn
abbrev pub step_words : Layout → Side → ℕ → ℕ → Bytes
step_words layout side i v = if i % 2 == 0
    then act_words layout side (codes " claims ") v
    else act_words layout (other side) (codes " must claim ") v

abbrev pub step_by : Layout → Side → ℕ → Option ℕ → List Piece
step_by layout side i None = []
step_by layout side i (Some v) = labelled tags.Li [] (step_words layout side i v)

-- the points of a threat line
abbrev pub steps_pieces : Layout → Side → List ℕ → List Piece
steps_pieces layout side points =
    flat_map (λ i. step_by layout side i (slice_get points i)) (range_with_len 0 (length points))

-- the list of them
abbrev pub steps_list : Layout → Side → List ℕ → List Piece
steps_list layout side points = element tags.Ol [] (steps_pieces layout side points)

-- a threat line
abbrev pub threat_pieces : Layout → Side → List ℕ → List Piece
threat_pieces layout side points = paragraph (side_words layout.kind side THREATS.now)
    ++ steps_list layout side points

-- how a claimer plays by weights
abbrev pub weights_does : Kind → Bytes
weights_does AvoiderEnforcer = WEIGHTS_TO_AVOID.now
weights_does _ = WEIGHTS.now

-- what is before the link to a weaker position
abbrev pub weaker_lead : Kind → Side → Bytes
weaker_lead kind side = codes "This is no worse for " ++ (side_name kind side ++ codes " than ")

-- that a position is no worse than that of another node
abbrev pub weaker_pieces : Kind → Side → Chapter → ℕ → List Piece
weaker_pieces kind side chapter child =
    element tags.P [] (pieces.Words (weaker_lead kind side) ∷ link_pieces chapter child)

-- what a body says
abbrev pub body_pieces : Layout → Side → Chapter → Body → List Piece
body_pieces layout side chapter bodies.Over = paragraph (side_words layout.kind side OVER.now)
body_pieces layout side chapter (bodies.Move v child) = move_pieces layout side chapter v child
body_pieces layout side chapter (bodies.All replies) = replies_pieces layout side chapter replies
body_pieces layout side chapter (bodies.Pairs pairs) =
    paragraph (side_words layout.kind side PAIRED.now)
body_pieces layout side chapter bodies.Potential =
    paragraph (side_words layout.kind side (weights_does layout.kind))
body_pieces layout side chapter (bodies.Trees with_e first second) =
    paragraph (side_words layout.kind side TREES.now)
body_pieces layout side chapter (bodies.Cuts with_e first second) =
    paragraph (side_words layout.kind side CUTS.now)
body_pieces layout side chapter (bodies.Threat points) = threat_pieces layout side points
body_pieces layout side chapter (bodies.Weaker child) = weaker_pieces layout.kind side chapter child
