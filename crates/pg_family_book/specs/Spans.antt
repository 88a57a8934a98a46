-- Books of connectivity games.
use Rattle.std.specs.Prelude.{ℕ, ◌==◌, Bool, true, false, if◌then◌else◌, List, [], ◌∷◌, ◌++◌}
use Rattle.std.specs.Prelude.{length}
use Rattle.std.specs.Prelude.{codes, decimal, Option, Some, None, slice_get}
use Rattle.std.specs.List.{flat_map, range_with_len}
use Rattle.pg_base.specs.Texts.{Bytes}
use Rattle.pg_base.specs.declared.kind.Kind.TheVariants.{MakerBreaker}
unfoldable use Rattle.pg_draw.specs.Pictures.{picture_of}
use Rattle.pg_graph.specs.Graph.{edge_count}
use Rattle.pg_picture.specs.declared.picture.Picture.{Picture}
use Rattle.pg_scene.specs.Items.{fault_items, point_items}
use Rattle.pg_scene.specs.SpanScenes.{span_items}
use Rattle.pg_captions.specs.SpanLegends.{span_title}
use Rattle.pg_scene.specs.declared.board.Board.TheVariants.{Graph}
use Rattle.pg_captions.specs.declared.look.Legend.TheVariants.{Absent}
use Rattle.pg_captions.specs.declared.look.Look.{Look}
use Rattle.pg_scene.specs.declared.scene.Scene.{Scene}
use Rattle.pg_span.specs.Game.{marks_at}
use Rattle.pg_span.specs.declared.cert.SpanBody.{SpanBody}
use Rattle.pg_span.specs.declared.cert.SpanBody.TheVariants.{Parts, Trees}
use Rattle.pg_span.specs.declared.cert.SpanCert.{SpanCert}
use Rattle.pg_span.specs.declared.cert.SpanClaim.{SpanClaim}
use Rattle.pg_span.specs.declared.game.SpanGame.{SpanGame}
use Rattle.pg_family_book.specs.Leaves.{leaves_text}
use Rattle.pg_family_book.specs.Rules.{said_words, set_words, whose}
use Rattle.pg_family_book.specs.declared.leaf.Leaf.{Leaf}
use Rattle.pg_family_book.specs.declared.leaf.Table.{Table}
use Rattle.pg_family_book.specs.declared.spans.TheConstants.{CLAIMED_FIRST, JOINING, LEGEND_EDGES}
use Rattle.pg_family_book.specs.declared.spans.TheConstants.{PARTED}

-- ---- pictures

-- a picture has no legend of its own, since its page has one
abbrev pub leaf_look : Look
leaf_look = record {
  numbers = true;
  lines = false;
  legend = Absent;
  size = None;
  blank = None;
  layout = None;
}

-- what is to be seen of a claim: the graph, each edge with its mark, and what the body names
abbrev pub span_scene : SpanGame → SpanClaim → Scene
span_scene g claim = record {
  title = span_title claim.side None;
  board = Graph g.graph.vertices g.graph.ends [] None;
  items = point_items (edge_count g.graph) (marks_at g claim.turn)
      ++ (span_items g claim.body ++ fault_items None);
  legend = [];
}

-- ---- tables

-- whether the edge is the one that is claimed first
abbrev pub is_first : Option ℕ → ℕ → Bool
is_first None v = false
is_first (Some w) v = w == v

-- the number of a vertex's part
abbrev pub part_by : Option ℕ → ℕ
part_by None = 0
part_by (Some part) = part

abbrev pub part_of : List ℕ → ℕ → ℕ
part_of numbers u = part_by (slice_get numbers u)

-- whether both ends of an edge are in the same part
abbrev pub same_part : List ℕ → ℕ × ℕ → Bool
same_part numbers e = part_of numbers e.0 == part_of numbers e.1

-- what an edge is in a claim
abbrev pub span_role : SpanBody → ℕ → ℕ × ℕ → Bytes
span_role (Trees first a1 a2) v e =
    if is_first first v then codes "claimed first" else set_words a1 a2 v
span_role (Parts numbers) v e =
    if same_part numbers e then codes "inside a part" else codes "between parts"

-- the ends of an edge
abbrev pub ends_words : ℕ × ℕ → Bytes
ends_words e = decimal e.0 ++ (codes " and " ++ decimal e.1)

-- the row of an edge: its number, its ends, whose it is, and what it is in the claim
abbrev pub span_row : SpanGame → SpanBody → ℕ → ℕ × ℕ → List Bytes
span_row g body v e =
    decimal v ∷ ends_words e ∷ whose MakerBreaker g.x g.y v ∷ span_role body v e ∷ []

abbrev pub span_row_by : SpanGame → SpanBody → ℕ → Option (ℕ × ℕ) → List (List Bytes)
span_row_by g body v None = []
span_row_by g body v (Some e) = span_row g body v e ∷ []

-- the rows of all edges
abbrev pub span_rows : SpanGame → SpanBody → List (List Bytes)
span_rows g body = flat_map (λ v. span_row_by g body v (slice_get g.graph.ends v))
    (range_with_len 0 (edge_count g.graph))

abbrev pub span_heads : List Bytes
span_heads =
    codes "Edge" ∷ codes "Between" ∷ codes "Whose" ∷ codes "In the proof" ∷ []

abbrev pub span_table : SpanGame → SpanBody → Table
span_table g body = record { heads = span_heads; rows = span_rows g body }

-- ---- pages

-- that an edge is claimed first, if one is
abbrev pub first_words : Option ℕ → List Bytes
first_words None = []
first_words (Some v) = CLAIMED_FIRST.now ∷ []

-- the rule of a claim
abbrev pub span_words : SpanBody → List Bytes
span_words (Trees first a1 a2) = first_words first ++ JOINING.now ∷ []
span_words (Parts numbers) = PARTED.now ∷ []

-- the page of a claim with this picture
abbrev pub span_leaf : SpanGame → SpanClaim → ℕ → Option Picture → Leaf
span_leaf g claim i picture = record {
  number = i;
  said = said_words MakerBreaker claim.side claim.turn;
  picture = picture;
  words = span_words claim.body;
  table = span_table g claim.body;
}

-- the page of the claim of that number, if there is one
abbrev pub span_by : SpanGame → ℕ → Option SpanClaim → List Leaf
span_by g i None = []
span_by g i (Some claim) =
    span_leaf g claim i (Some (picture_of leaf_look (span_scene g claim))) ∷ []

-- the pages of all claims
abbrev pub span_leaves : SpanGame → SpanCert → List Leaf
span_leaves g c = flat_map (λ i. span_by g i (slice_get c.claims i))
    (range_with_len 0 (length c.claims))

-- the text of a certificate's book
abbrev pub span_book_text : SpanGame → SpanCert → Bytes
span_book_text g c = leaves_text LEGEND_EDGES.now (span_leaves g c)
