-- Which plain nodes there are so far, by their positions.
use Rattle.std.specs.Prelude.{◌≡◌, ℕ, ◌<◌, ◌≤◌, ◌⊎◌, List, [], ◌∷◌, length, slice_get, Option, Some}
use Rattle.std.specs.Prelude.{None, nat_le, if◌then◌else◌}
use Rattle.pg_fold.specs.Prelude.{All, Contains, position_of, IsValidClaim, Claim, Node, IsPosition}
use Rattle.pg_fold.specs.Prelude.{Game, Position, ImageClaim, ImageNode, Plain, number_of, GridMap}
use Rattle.pg_fold.specs.Folded.{IsImageOf, IsFoldedAt, HaveDifferentPositions}
use Rattle.pg_fold.specs.declared.original.Original.{Original}

-- what was found first, unless the node that was found next, under the map, is earlier
abbrev pub earlier : Option Original → Option ℕ → GridMap → Option Original
earlier first None m = first
earlier None (Some node) m = Some (record { node = node; map = m })
earlier (Some original) (Some node) m =
    if nat_le original.node node then Some original else Some (record { node = node; map = m })

-- the node that is known at the position that m leads back to is no earlier than that one, nor
-- under a map of lower number
pub record IsNoEarlier (found : Option Original) (j : ℕ) (m : GridMap) : Type 0 where
  pub original : Original
  pub is : found ≡ Some original
  pub later : (original.node < j) ⊎ ((original.node ≡ j) × (number_of original.map ≤ number_of m))

-- of the nodes that are known at the positions to which the maps lead back the first, under the map
-- of the lowest number
pub record IsEarliest (known : Position → Option ℕ) (back : GridMap → Position)
    (maps : List GridMap) (found : Option Original) : Type 0 where
  pub is : (original : Original)
      → found ≡ Some original
      → Contains maps original.map × (known (back original.map) ≡ Some original.node)
  pub first : (m : GridMap) (j : ℕ)
      → Contains maps m
      → known (back m) ≡ Some j
      → IsNoEarlier found j m

-- the position is the image of that node's under that map, which no earlier plain node and no map
-- of lower number does; where there is none, of no plain node's
abbrev pub IsFirstOriginal : Game → List ImageNode → Position → Option Original → Type 0
IsFirstOriginal g nodes p None = (j : ℕ) (m : GridMap) → IsImageOf g nodes p j m → ⊥
IsFirstOriginal g nodes p (Some original) = IsImageOf g nodes p original.node original.map
    × ((j : ℕ) (m : GridMap) → IsImageOf g nodes p j m
    → (original.node < j) ⊎ ((original.node ≡ j) × (number_of original.map ≤ number_of m)))

-- each plain node is known by its position, and no others
pub record ArePlaced (known : Position → Option ℕ) (nodes : List ImageNode) : Type 0 where
  pub found : (p : Position) (j : ℕ)
      → known p ≡ Some j
      → (node : Node) × (slice_get nodes j ≡ Some (Plain node)) × (position_of node ≡ p)
  pub placed : (j : ℕ) (node : Node)
      → slice_get nodes j ≡ Some (Plain node)
      → known (position_of node) ≡ Some j

-- each of the nodes is folded
pub record AreAllFolded (g : Game) (before : List Node) (nodes : List ImageNode) : Type 0 where
  pub count : length nodes ≡ length before
  pub each : (k : ℕ) (node : Node) → slice_get before k ≡ Some node → IsFoldedAt g nodes k node

-- they are, and it is known which are plain
pub record AreFolded (g : Game) (before : List Node) (known : Position → Option ℕ)
    (nodes : List ImageNode) : Type 0 where
  pub all : AreAllFolded g before nodes
  pub placed : ArePlaced known nodes

-- the plain nodes have positions of the game
abbrev pub HavePositions : Game → List ImageNode → Type 0
HavePositions g nodes =
    (j : ℕ) (node : Node) → slice_get nodes j ≡ Some (Plain node) → IsPosition g (position_of node)

-- the nodes have positions of the game, no two of them the same
pub record HaveDifferent (g : Game) (nodes : List Node) : Type 0 where
  pub position : (k : ℕ) (node : Node)
      → slice_get nodes k ≡ Some node
      → IsPosition g (position_of node)
  pub different : HaveDifferentPositions nodes

-- the claim is valid, and no two of its nodes have the same position
pub record IsFoldable (g : Game) (claim : Claim) : Type 0 where
  pub valid : IsValidClaim g claim
  pub differ : HaveDifferentPositions claim.nodes

-- so is each of the claims
abbrev pub AreFoldable : Game → List Claim → Type 0
AreFoldable g claims = All (IsFoldable g) claims

-- the claim has one node, and that stays as it is
pub record Stays (claim : Claim) (same : ImageClaim) : Type 0 where
  pub turn : same.turn ≡ claim.turn
  pub side : same.side ≡ claim.side
  pub goal : same.goal ≡ claim.goal
  pub node : Node
  pub of : claim.nodes ≡ node ∷ []
  pub nodes : same.nodes ≡ Plain node ∷ []
