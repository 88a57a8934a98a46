-- The scene of a claim.
use Rattle.std.proofs.Common.{◌≡◌, ◌∙◌, ℕ, List, [], ◌∷◌, Option, Some, None, refl, sym, ap, subst}
use Rattle.std.specs.Prelude.{IfSome, slice_get}
use Rattle.pg_base.proofs.Stands.{same_some}
use Rattle.pg_draw.specs.Pictures.{picture_of}
use Rattle.pg_scene.specs.Limits.{IsBridge}
use Rattle.pg_scene.specs.Scenes.{IsDrawnGraph}
use Rattle.pg_scene.specs.SpanScenes.{IsSceneOfSpan, IsSceneOfSpanClaim}
use Rattle.pg_scene.specs.declared.board.Board.{Board}
use Rattle.pg_scene.specs.declared.board.Board.TheVariants.{Graph}
use Rattle.pg_scene.specs.declared.item.Item.{Item}
use Rattle.pg_scene.specs.declared.scene.Scene.{Scene}
use Rattle.pg_span.specs.declared.cert.SpanCert.{SpanCert}
use Rattle.pg_span.specs.declared.cert.SpanClaim.{SpanClaim}
use Rattle.pg_span.specs.declared.game.SpanGame.{SpanGame}
use Rattle.pg_family_book.specs.Spans.{leaf_look, span_scene}

nothing : (x : ℕ) (xs : List ℕ) → [] ≡ x ∷ xs → ⊥
nothing x xs is = cc is

-- no board without terminals is one of Bridg-It
no-rows : (vertices : ℕ) (ends : List (ℕ × ℕ)) (rows : Option ℕ)
    → IfSome rows (IsBridge vertices ends [])
    → rows ≡ None
no-rows vertices ends None is = refl
no-rows vertices ends (Some r) is = absurd (nothing 0 (1 ∷ []) is.same_terminals)

board-same : (vertices : ℕ) (ends : List (ℕ × ℕ)) (board : Board)
    → IsDrawnGraph vertices ends [] board
    → board ≡ Graph vertices ends [] None
board-same vertices ends board is =
    is.same ∙ ap (Graph vertices ends []) (no-rows vertices ends is.rows is.found)

-- a scene by its parts
abbrev scene-of : List ℕ → Board → List Item → List (List ℕ) → Scene
scene-of title board items legend =
    record { title = title; board = board; items = items; legend = legend }

scene-same : (g : SpanGame) (claim : SpanClaim) (scene : Scene)
    → IsSceneOfSpan leaf_look g claim None scene
    → scene ≡ span_scene g claim
scene-same g claim scene is =
    let drawn = span_scene g claim in
    let board = board-same g.graph.vertices g.graph.ends scene.board is.board in
    ap (λ t. scene-of t scene.board scene.items scene.legend) is.title
    ∙ ap (λ b. scene-of drawn.title b scene.items scene.legend) board
    ∙ ap (λ i. scene-of drawn.title drawn.board i scene.legend) is.items
    ∙ ap (λ l. scene-of drawn.title drawn.board drawn.items l) is.legend

-- the picture of the scene of the claim of that number
pub claim-drawn : (g : SpanGame) (c : SpanCert) (i : ℕ) (claim : SpanClaim) (scene : Scene)
    → slice_get c.claims i ≡ Some claim
    → IsSceneOfSpanClaim leaf_look g c i None scene
    → picture_of leaf_look scene ≡ picture_of leaf_look (span_scene g claim)
claim-drawn g c i claim scene at is =
    let same : is.whole ≡ claim = same_some (sym is.named ∙ at) in
    let shown : IsSceneOfSpan leaf_look g claim None scene =
    subst (λ (w : SpanClaim). IsSceneOfSpan leaf_look g w None scene) same is.shown in
    ap (picture_of leaf_look) (scene-same g claim scene shown)
