-- How positions come about: the page before, and what is done there.
use Rattle.std.specs.Prelude.{ℕ, zero, suc, ◌+◌, ◌-◌, Bool, ◌==◌, if◌then◌else◌, List, [], ◌∷◌}
use Rattle.std.specs.Prelude.{◌++◌}
use Rattle.std.specs.Prelude.{codes, Option, Some, None, slice_get}
use Rattle.pg_base.specs.Side.{other}
use Rattle.pg_base.specs.Texts.{Bytes}
use Rattle.pg_base.specs.declared.side.Side.{Side}
use Rattle.pg_cert.specs.declared.cert.Claim.{Claim}
use Rattle.pg_cert.specs.declared.node.Body.{Body}
use Rattle.pg_cert.specs.declared.node.Body.TheVariants as bodies
use Rattle.pg_cert.specs.declared.node.Node.{Node}
use Rattle.pg_cert.specs.declared.reply.Reply.{Reply}
use Rattle.pg_page.specs.Html.{worded}
use Rattle.pg_page.specs.declared.attribute.Name.TheVariants as names
use Rattle.pg_page.specs.declared.piece.Piece.{Piece}
use Rattle.pg_page.specs.declared.piece.Piece.TheVariants as pieces
use Rattle.pg_page.specs.declared.tag.Tag.TheVariants as tags
use Rattle.pg_book_parts.specs.Chapters.{link_pieces}
use Rattle.pg_book_parts.specs.Elements.{element}
use Rattle.pg_book_parts.specs.Words.{act_words}
use Rattle.pg_book_parts.specs.declared.chapter.Chapter.{Chapter}
use Rattle.pg_book_parts.specs.declared.layout.Layout.{Layout}
use Rattle.pg_book_parts.specs.declared.origins.Origin.{Origin}

-- ---- what leads to a node

-- what leads there, if the test holds
abbrev pub origin_if : Bool → Origin → Option Origin
origin_if is origin = if is then Some origin else None

-- the claim of a point at a node
abbrev pub claims_at : ℕ → Side → ℕ → Origin
claims_at node side v = record { node = node; side = side; point = Some v }

-- the first reply that leads to that child
abbrev pub reply_origin : ℕ → Side → ℕ → List Reply → Option Origin
reply_origin node side child [] = None
reply_origin node side child (r ∷ others) = if r.child == child
    then Some (claims_at node side r.point)
    else reply_origin node side child others

-- what leads from a node of a claim of that side to that child, if something does
abbrev pub origin_in : ℕ → Side → ℕ → Body → Option Origin
origin_in node side child (bodies.Move v next) =
    origin_if (next == child) (claims_at node side v)
origin_in node side child (bodies.All replies) = reply_origin node (other side) child replies
origin_in node side child (bodies.Weaker next) =
    origin_if (next == child) (record { node = node; side = side; point = None })
origin_in node side child _ = None

abbrev pub origin_by : ℕ → Side → ℕ → Option Node → Option Origin
origin_by node side child None = None
origin_by node side child (Some before) = origin_in node side child before.body

-- what leads from the node of that page to that child, if something does
abbrev pub origin_at : Claim → ℕ → ℕ → ℕ → Option Origin
origin_at claim count child page =
    origin_by (count - page) claim.side child (slice_get claim.nodes (count - page))

-- the first of two, if there is one
abbrev pub first_of : Option Origin → Option Origin → Option Origin
first_of (Some origin) rest = Some origin
first_of None rest = rest

-- what leads to that child from the first of so many pages that does, from a page on
unfoldable pub origin_from : Claim → ℕ → ℕ → ℕ → ℕ → Option Origin
origin_from claim count child page zero = None
origin_from claim count child page (suc n) =
    first_of (origin_at claim count child page) (origin_from claim count child (page + 1) n)

-- what leads to the node of a page, on the first page that does
abbrev pub origin_of : Claim → Chapter → ℕ → Option Origin
origin_of claim chapter page =
    origin_from claim chapter.count (chapter.count - page) 1 (page - 1)

-- ---- what is said of it

abbrev pub lead_by : Layout → Side → Option ℕ → Bytes
lead_by layout side None = codes "Compared with the position on "
lead_by layout side (Some v) =
    codes "After " ++ (act_words layout side (codes " claims ") v ++ codes ", on ")

-- what is said before the link to the page before
abbrev pub origin_lead : Layout → Origin → Bytes
origin_lead layout origin = lead_by layout origin.side origin.point

-- what leads to a node, with a link to the page before
abbrev pub origin_pieces : Layout → Chapter → Option Origin → List Piece
origin_pieces layout chapter None = []
origin_pieces layout chapter (Some origin) = element tags.P (worded names.Class (codes "from") ∷ [])
    (pieces.Words (origin_lead layout origin) ∷ link_pieces chapter origin.node)
