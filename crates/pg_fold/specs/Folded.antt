-- A certificate folded: a node whose position is the image of an earlier plain node's is said as
-- the image of that node.
use Rattle.std.specs.Prelude.{◌≡◌, ℕ, ◌<◌, ◌≤◌, ◌⊎◌, List, length, slice_get, Some}
use Rattle.pg_fold.specs.Prelude.{AllZip, position_of, Cert, Claim, Node, Game, Position}
use Rattle.pg_fold.specs.Prelude.{image_node_position, ImageCert, ImageClaim, ImageNode, Plain}
use Rattle.pg_fold.specs.Prelude.{Image, number_of, board_of, image_on, image_position, GridMap}
use Rattle.pg_fold.specs.Prelude.{IsUsable}

-- node number j is plain, and the position is the image of its position under the map, which fits
-- the game's board
pub record IsImageOf (g : Game) (nodes : List ImageNode) (p : Position) (j : ℕ)
    (m : GridMap) : Type 0 where
  pub usable : IsUsable g m
  pub node : Node
  pub at : slice_get nodes j ≡ Some (Plain node)
  pub image : p ≡ image_position (image_on (board_of g.field) m) (position_of node)

-- it is so of j, which is below k, and of no lower number, nor of j under a map of lower number
pub record IsFirstImageOf (g : Game) (nodes : List ImageNode) (k : ℕ) (p : Position) (j : ℕ)
    (m : GridMap) : Type 0 where
  pub earlier : j < k
  pub is : IsImageOf g nodes p j m
  pub first : (i : ℕ) (h : GridMap)
      → IsImageOf g nodes p i h
      → (j < i) ⊎ ((j ≡ i) × (number_of m ≤ number_of h))

-- what node number k becomes: it stays where its position is the image of no earlier plain node's,
-- and else it is that of the first such node
abbrev pub BecomesNode : Game → List ImageNode → ℕ → Node → ImageNode → Type 0
BecomesNode g nodes k node (Plain same) =
    (same ≡ node) × ((j : ℕ) (m : GridMap) → j < k → IsImageOf g nodes (position_of node) j m → ⊥)
BecomesNode g nodes k node (Image x y turn left m j) =
    (image_node_position (Image x y turn left m j) ≡ position_of node)
    × IsFirstImageOf g nodes k (position_of node) j m

-- among the nodes, number k is what the node becomes
pub record IsFoldedAt (g : Game) (nodes : List ImageNode) (k : ℕ) (node : Node) : Type 0 where
  pub folded : ImageNode
  pub at : slice_get nodes k ≡ Some folded
  pub becomes : BecomesNode g nodes k node folded

-- the same claim, with as many nodes
pub record IsFoldedClaim (g : Game) (c : Claim) (folded : ImageClaim) : Type 0 where
  pub turn : folded.turn ≡ c.turn
  pub side : folded.side ≡ c.side
  pub goal : folded.goal ≡ c.goal
  pub count : length folded.nodes ≡ length c.nodes
  pub nodes : (k : ℕ) (node : Node)
      → slice_get c.nodes k ≡ Some node
      → IsFoldedAt g folded.nodes k node

-- claim by claim
pub record IsFolded (g : Game) (c : Cert) (folded : ImageCert) : Type 0 where
  pub claims : AllZip (IsFoldedClaim g) c.claims folded.claims

-- the same side to move first reaches the same goal for the same side
pub record IsSameClaim (c other : Claim) : Type 0 where
  pub turn : other.turn ≡ c.turn
  pub side : other.side ≡ c.side
  pub goal : other.goal ≡ c.goal

-- no two of the nodes have the same position
abbrev pub HaveDifferentPositions : List Node → Type 0
HaveDifferentPositions nodes = (i k : ℕ) (m n : Node) → slice_get nodes i ≡ Some m
    → slice_get nodes k ≡ Some n
    → position_of m ≡ position_of n
    → i ≡ k

-- nor do two of one claim
abbrev pub DifferInPosition : Cert → Type 0
DifferInPosition c =
    (i : ℕ) (claim : Claim) → slice_get c.claims i ≡ Some claim → HaveDifferentPositions claim.nodes
