-- When a node of a certificate with turned and reflected nodes is faulty, and when a claim of it is
-- too large unfolded.
use Rattle.std.specs.Prelude.{◌≡◌, ℕ, ◌+◌, ◌<◌, ◌≤◌, ◌↔◌, ◌⊎◌, List, length, slice_get, Some, sum}
use Rattle.std.specs.Prelude.{take}
use Rattle.pg_unfold.specs.Prelude.{All, AllZip, Contains, AreBelow, Grid, position_of}
use Rattle.pg_unfold.specs.Prelude.{NamesEarlier, MAX_CLAIM_NODES, MAX_NODES, Game, Position}
use Rattle.pg_unfold.specs.Prelude.{ImageCert, ImageClaim, ImageNode, Plain, Image}
use Rattle.pg_unfold.specs.Prelude.{image_node_position, Fits, board_of, image_on, image_position}
use Rattle.pg_unfold.specs.Prelude.{GridMap}
use Rattle.pg_game.specs.Game.{point_count}
use Rattle.pg_unfold.specs.Copies.{Copy, AreCopies}
use Rattle.pg_unfold.specs.Flaw.{flaw_number}
use Rattle.pg_unfold.specs.declared.unfolded.ImageFault.{ImageFault}
use Rattle.pg_unfold.specs.declared.unfolded.ImageFault.TheVariants.{Bad, Memory}
use Rattle.pg_unfold.specs.declared.flaw.Flaw.{Flaw}
use Rattle.pg_unfold.specs.declared.flaw.Flaw.TheVariants as flaws

-- ---- nodes

-- the children that the node names have numbers below k
abbrev pub HasEarlier : ℕ → ImageNode → Type 0
HasEarlier k (Plain node) = NamesEarlier k node.body
HasEarlier k (Image x y turn left m child) = child < k

-- the points are cells of a board, and the map takes the lines onto the lines
pub record IsUsable (g : Game) (m : GridMap) : Type 0 where
  pub grid : Grid
  pub on_grid : board_of g.field ≡ Some grid
  pub fits : Fits g m

-- the maps are exactly those
abbrev pub AreUsable : Game → List GridMap → Type 0
AreUsable g maps = (m : GridMap) → Contains maps m ↔ IsUsable g m

abbrev pub HasUsable : Game → ImageNode → Type 0
HasUsable g (Plain node) = Unit {0}
HasUsable g (Image x y turn left m child) = IsUsable g m

-- the position is the image of the child's
pub record IsImageOfChild (g : Game) (nodes : List ImageNode) (m : GridMap) (child : ℕ)
    (p : Position) : Type 0 where
  pub node : ImageNode
  pub at : slice_get nodes child ≡ Some node
  pub image : p ≡ image_position (image_on (board_of g.field) m) (image_node_position node)

-- all marks are points of the game
pub record HasPoints (g : Game) (p : Position) : Type 0 where
  pub x : AreBelow p.x (point_count g)
  pub y : AreBelow p.y (point_count g)

abbrev pub HasMarks : Game → List ImageNode → ImageNode → Type 0
HasMarks g nodes (Plain node) = HasPoints g (position_of node)
HasMarks g nodes (Image x y turn left m child) =
    IsImageOfChild g nodes m child (image_node_position (Image x y turn left m child))

-- THE TABLE: what node number k owes under each flaw's name
abbrev pub Passes : Game → List ImageNode → ℕ → ImageNode → Flaw → Type 0
Passes g nodes k node flaws.Child = HasEarlier k node
Passes g nodes k node flaws.Map = HasUsable g node
Passes g nodes k node flaws.Marks = HasMarks g nodes node

-- the node owes nothing
abbrev pub IsSound : Game → List ImageNode → ℕ → ImageNode → Type 0
IsSound g nodes k node = (flaw : Flaw) → Passes g nodes k node flaw

-- every node of the claim before number k is sound
abbrev pub AreSoundBefore : Game → ImageClaim → ℕ → Type 0
AreSoundBefore g c k =
    (j : ℕ) (node : ImageNode) → j < k → slice_get c.nodes j ≡ Some node → IsSound g c.nodes j node

-- every node of the claim is sound, met or not
abbrev pub IsSoundClaim : Game → ImageClaim → Type 0
IsSoundClaim g c =
    (k : ℕ) (node : ImageNode) → slice_get c.nodes k ≡ Some node → IsSound g c.nodes k node

abbrev pub AreSound : Game → List ImageClaim → Type 0
AreSound g claims = All (IsSoundClaim g) claims

-- the flaw of least number that the node has
pub record IsLeastFlaw (g : Game) (nodes : List ImageNode) (k : ℕ) (node : ImageNode)
    (flaw : Flaw) : Type 0 where
  pub fails : Passes g nodes k node flaw → ⊥
  pub lesser : (before : Flaw)
      → flaw_number before < flaw_number flaw
      → Passes g nodes k node before

-- the claim's first faulty node, and its flaw
pub record IsFirstIn (g : Game) (c : ImageClaim) (k : ℕ) (flaw : Flaw) : Type 0 where
  pub before : AreSoundBefore g c k
  pub node : ImageNode
  pub at : slice_get c.nodes k ≡ Some node
  pub least : IsLeastFlaw g c.nodes k node flaw

-- the first faulty claim, in it the first faulty node, and the least number of its flaws
pub record IsFirstFlaw (g : Game) (claims : List ImageClaim) (claim node why : ℕ) : Type 0 where
  pub claims_before : AreSound g (take claim claims)
  pub faulty : ImageClaim
  pub claim_at : slice_get claims claim ≡ Some faulty
  pub flaw : Flaw
  pub first : IsFirstIn g faulty node flaw
  pub number : why ≡ flaw_number flaw

-- what is told of nodes: the first fault, where there is one; want of memory says nothing
abbrev pub TellsFlaw : Game → List ImageClaim → ImageFault → Type 0
TellsFlaw g claims (Bad claim node why) = IsFirstFlaw g claims claim node why
TellsFlaw g claims Memory = Unit {0}

-- ---- sizes

-- how many nodes the claim has unfolded
pub record HasSize (c : ImageClaim) (size : ℕ) : Type 0 where
  pub copies : List Copy
  pub are : AreCopies c.nodes copies
  pub counted : length copies ≡ size

-- no more than a claim may have, and together no more than a certificate may have
pub record AreFew (sizes : List ℕ) : Type 0 where
  pub each : All (λ size. size ≤ MAX_CLAIM_NODES) sizes
  pub together : sum sizes ≤ MAX_NODES

-- the claims unfolded have few enough nodes
pub record HaveRoom (claims : List ImageClaim) : Type 0 where
  pub sizes : List ℕ
  pub are : AllZip HasSize claims sizes
  pub few : AreFew sizes

-- the first claim with which there are too many nodes, and the number of its last node
pub record IsFirstTooLarge (claims : List ImageClaim) (claim node : ℕ) : Type 0 where
  pub before : HaveRoom (take claim claims)
  pub large : ImageClaim
  pub claim_at : slice_get claims claim ≡ Some large
  pub last : node + 1 ≡ length large.nodes
  pub size : ℕ
  pub is : HasSize large size
  pub much : (MAX_CLAIM_NODES < size) ⊎ (MAX_NODES < sum before.sizes + size)

-- ---- faults

-- the first fault: that of a node, or where there is none that of a claim which is too large
abbrev pub IsFirstFault : Game → ImageCert → ℕ → ℕ → ℕ → Type 0
IsFirstFault g c claim node why = IsFirstFlaw g c.claims claim node why
    ⊎ ((why ≡ 4) × AreSound g c.claims × IsFirstTooLarge c.claims claim node)

-- no node is faulty and no claim too large
pub record IsFaultless (g : Game) (c : ImageCert) : Type 0 where
  pub sound : AreSound g c.claims
  pub room : HaveRoom c.claims
