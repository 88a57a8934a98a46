-- What a page shows of the node that a claim and a number name.
use Rattle.std.proofs.Common.{◌≡◌, ◌∙◌, ℕ, Option, Some, None, sym, ap, subst}
use Rattle.std.specs.Prelude.{slice_get}
use Rattle.std.specs.List.{flat_map}
use Rattle.pg_base.proofs.Stands.{same_some, some≢none}
use Rattle.pg_cert.specs.declared.cert.Cert.{Cert}
use Rattle.pg_cert.specs.declared.cert.Claim.{Claim}
use Rattle.pg_cert.specs.declared.node.Node.{Node}
use Rattle.pg_draw.specs.Pictures.{picture_of}
use Rattle.pg_game.specs.declared.game.Game.{Game}
use Rattle.pg_layout.specs.declared.chart.Chart.{Chart}
use Rattle.pg_scene.specs.Scenes.{AreNamed, IsSceneOf, IsSceneOfNode}
use Rattle.pg_scene.specs.declared.scene.Scene.{Scene}
use Rattle.pg_book_parts.specs.declared.chapter.Chapter.{Chapter}
use Rattle.pg_book_parts.specs.declared.layout.Layout.{Layout}
use Rattle.pg_book.specs.Boards.{board_of}
use Rattle.pg_book.specs.Books.{page_pieces, section_pieces}
use Rattle.pg_book.specs.Scenes.{kept, page_look, page_picture, scene_by}
use Rattle.pg_book.specs.Showing.{IsShownOf}
use Rattle.pg_book.specs.declared.scenes.Shown.{Shown}
use Rattle.pg_book.proofs.Rows.{laid-same}

-- a claim and a number name one node
claims-same : (c : Cert) (i k : ℕ) (whole claim : Claim) (node part : Node)
    → AreNamed c i k whole node
    → AreNamed c i k claim part
    → whole ≡ claim
claims-same c i k whole claim node part one other =
    same_some (sym one.claim_at ∙ other.claim_at)

nodes-same : (c : Cert) (i k : ℕ) (whole claim : Claim) (node part : Node)
    → AreNamed c i k whole node
    → AreNamed c i k claim part
    → node ≡ part
nodes-same c i k whole claim node part one other =
    let e = claims-same c i k whole claim node part one other in
    same_some (sym one.node_at ∙ ap (λ (w : Claim). slice_get w.nodes k) e ∙ other.node_at)

-- the scene of a node gives what its page shows
pub shows : (chart : Option Chart) (g : Game) (c : Cert) (i k : ℕ) (scene : Scene)
    (found : Option Shown) (shown : Shown)
    → IsSceneOfNode (page_look chart) g c i k None scene
    → found ≡ Some shown
    → shown.picture
    ≡ picture_of (page_look chart) (scene_by scene.board (flat_map kept scene.items))
    → shown.legend ≡ scene.legend
    → (claim : Claim) (part : Node)
    → AreNamed c i k claim part
    → IsShownOf g chart claim.side part found
shows chart g c i k scene found shown is same picture legend claim part named =
    let one = claims-same c i k is.whole claim is.node part is.named named in
    let other = nodes-same c i k is.whole claim is.node part is.named named in
    let at : IsSceneOf (page_look chart) g claim k part None scene =
    subst (λ (n : Node). IsSceneOf (page_look chart) g claim k n None scene) other
    (subst (λ (w : Claim). IsSceneOf (page_look chart) g w k is.node None scene) one is.shown) in
    record {
      shown = shown;
      is = same;
      picture = picture
          ∙ ap (λ b. picture_of (page_look chart) (scene_by b (flat_map kept scene.items)))
          (laid-same chart g.field scene.board at.board)
          ∙ ap (λ items. picture_of (page_look chart)
          (scene_by (board_of chart g.field) (flat_map kept items))) at.items;
      legend = legend ∙ at.legend;
    }

-- a certificate without the node names none
pub shows-none : (chart : Option Chart) (g : Game) (c : Cert) (i k : ℕ) (found : Option Shown)
    → ((whole : Claim) (node : Node) → AreNamed c i k whole node → ⊥)
    → (claim : Claim) (part : Node)
    → AreNamed c i k claim part
    → IsShownOf g chart claim.side part found
shows-none chart g c i k found lacks claim part named = absurd (lacks claim part named)

-- what is shown of a node that is named is something
pub shown-some : (chart : Option Chart) (g : Game) (claim : Claim) (part : Node)
    (found : Option Shown)
    → IsShownOf g chart claim.side part found
    → found ≡ None
    → ⊥
shown-some chart g claim part found is none = some≢none (sym is.is ∙ none)

-- the section of a node has what is shown of it
pub section-shown : (g : Game) (layout : Layout) (claim : Claim) (chapter : Chapter) (page : ℕ)
    (node : Node) (found : Option Shown) (shown : Shown)
    → IsShownOf g layout.chart claim.side node found
    → found ≡ Some shown
    → page_pieces layout claim chapter page node.body shown.picture shown.legend
    ≡ section_pieces g layout claim chapter page node
section-shown g layout claim chapter page node found shown is at =
    let same : shown ≡ is.shown = same_some (sym at ∙ is.is) in
    ap (λ (s : Shown). page_pieces layout claim chapter page node.body s.picture s.legend) same
    ∙ ap (λ p. page_pieces layout claim chapter page node.body p is.shown.legend) is.picture
    ∙ ap (λ lines. page_pieces layout claim chapter page node.body
    (page_picture g layout.chart claim.side node) lines) is.legend
