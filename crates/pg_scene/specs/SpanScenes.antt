-- What is to be seen of a connectivity game, and of a claim of its certificate.
use Rattle.std.specs.Prelude.{◌≡◌, ℕ, nat_lt, List, [], ◌++◌, codes, Option}
use Rattle.std.specs.Prelude.{Some, None, slice_get}
use Rattle.pg_scene.specs.Prelude.{edge_count, marks_at}
use Rattle.pg_scene.specs.Prelude.{SpanBody, Trees, Parts, SpanClaim, SpanGame}
use Rattle.pg_span.specs.declared.cert.SpanCert.{SpanCert}
use Rattle.pg_scene.specs.Items.{fault_items, member_items, numbered, point_items}
use Rattle.pg_captions.specs.Look.{seen_at}
use Rattle.pg_scene.specs.Items.{seen_if}
use Rattle.pg_scene.specs.Scenes.{IsDrawnGraph}
use Rattle.pg_scene.specs.declared.item.Item.{Item}
use Rattle.pg_scene.specs.declared.item.Item.TheVariants.{Step, Part}
use Rattle.pg_scene.specs.declared.item.Set.TheVariants.{First, Second}
use Rattle.pg_captions.specs.declared.look.Look.{Look}
use Rattle.pg_captions.specs.SpanLegends.{span_by, span_game_by, span_title}
use Rattle.pg_scene.specs.declared.scene.Scene.{Scene}

-- ---- items

-- the edge that X claims first, where there is one
abbrev pub first_items : ℕ → Option ℕ → List Item
first_items n (Some v) = seen_if (nat_lt v n) (Step v 1)
first_items n None = []

-- a vertex with the number of its part
abbrev pub part_item : ℕ → ℕ → ℕ → List Item
part_item n u part = seen_if (nat_lt u n) (Part u part)

-- what a body names, of the edges and vertices of the game alone
abbrev pub span_items : SpanGame → SpanBody → List Item
span_items g (Trees first a1 a2) = first_items (edge_count g.graph) first
    ++ (member_items (edge_count g.graph) First a1 ++ member_items (edge_count g.graph) Second a2)
span_items g (Parts parts) = numbered (part_item g.graph.vertices) 0 parts

-- ---- scenes

-- a game: its edges with their marks, or without marks on blank boards
pub record IsSceneOfSpanGame (look : Look) (g : SpanGame) (scene : Scene) : Type 0 where
  pub title : scene.title ≡ codes "Connectivity game"
  pub board : IsDrawnGraph g.graph.vertices g.graph.ends [] scene.board
  pub items : scene.items
      ≡ point_items (edge_count g.graph) (seen_at look.blank (marks_at g g.turn))
  pub legend : scene.legend ≡ span_game_by look.legend look g

-- a claim: the edges with the game's marks, what the body names, and whether the claim is faulty
pub record IsSceneOfSpan (look : Look) (g : SpanGame) (claim : SpanClaim) (fault : Option ℕ)
    (scene : Scene) : Type 0 where
  pub title : scene.title ≡ span_title claim.side fault
  pub board : IsDrawnGraph g.graph.vertices g.graph.ends [] scene.board
  pub items : scene.items ≡ point_items (edge_count g.graph) (marks_at g claim.turn)
      ++ (span_items g claim.body ++ fault_items fault)
  pub legend : scene.legend ≡ span_by look.legend look g claim fault

-- the certificate's claim of that number
pub record IsSceneOfSpanClaim (look : Look) (g : SpanGame) (c : SpanCert) (claim : ℕ)
    (fault : Option ℕ) (scene : Scene) : Type 0 where
  pub whole : SpanClaim
  pub named : slice_get c.claims claim ≡ Some whole
  pub shown : IsSceneOfSpan look g whole fault scene
