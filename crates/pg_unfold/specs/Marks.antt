-- The table of marks in which an unfolding notes what is met: eight places for each node, one for
-- each map.
use Rattle.std.specs.Prelude.{◌≡◌, ℕ, zero, suc, ◌+◌, ◌*◌, ◌-◌, ◌/◌, ◌%◌, ◌≤◌, ◌⊎◌, Bool, true}
use Rattle.std.specs.Prelude.{false, ◌&&◌, List, [], ◌∷◌, ◌++◌, length, slice_get, Option, Some}
use Rattle.std.specs.Prelude.{None, if◌then◌else◌}
use Rattle.pg_unfold.specs.Prelude.{All, IsMarked, Grid, Body, ImageClaim, ImageNode, Plain, Image}
use Rattle.pg_unfold.specs.Prelude.{numbered, number_of, IsMapOn, GridMap}
use Rattle.pg_base.specs.declared.limits.TheConstants.{MAX_MEMBERS}
use Rattle.pg_unfold.specs.Copies.{Copy, NamesChild, LeadsTo, IsAt, IsMet, IsPlaced}
use Rattle.pg_unfold.specs.Flaws.{HasEarlier}

-- the place of a copy in the table, and the copy with a place
abbrev pub key_of : Copy → ℕ
key_of c = 8 * c.node + number_of c.map

abbrev pub copy_at : ℕ → Copy
copy_at key = record { node = key / 8; map = numbered (key % 8) }

-- those marks were added
pub record AreAdded (P : ℕ → Type 0) (old new : List Bool) : Type 0 where
  pub kept : (key : ℕ) → IsMarked old key → IsMarked new key
  pub put : (key : ℕ) → P key → IsMarked new key
  pub only : (key : ℕ) → IsMarked new key → IsMarked old key ⊎ P key

-- the copy with that place is one of a child that the body names, under the map of that number
abbrev pub IsChildOf : Body → ℕ → ℕ → Type 0
IsChildOf body m key = NamesChild body (key / 8) × (key % 8 ≡ m)

-- the copy with the one place leads to that with the other
abbrev pub Hands : List ImageNode → ℕ → ℕ → Type 0
Hands nodes key next = IsAt nodes (copy_at key) (λ node. LeadsTo node (copy_at key) (copy_at next))

-- the children of every node have lower numbers
abbrev pub AreEarlier : List ImageNode → Type 0
AreEarlier nodes = (k : ℕ) (node : ImageNode) → slice_get nodes k ≡ Some node → HasEarlier k node

-- so it is in each of the claims
abbrev pub AreAllEarlier : List ImageClaim → Type 0
AreAllEarlier claims = All (λ (claim : ImageClaim). AreEarlier claim.nodes) claims

-- the marks of a claim's copies: exactly those that are met
pub record AreMet (nodes : List ImageNode) (marks : List Bool) : Type 0 where
  pub whole : length marks ≡ 8 * length nodes
  pub sound : (key : ℕ) → IsMarked marks key → IsMet nodes (copy_at key)
  pub complete : (c : Copy) → IsMet nodes c → IsMarked marks (key_of c)

-- the copies with places from the key on have handed on their marks
pub record HasPassed (nodes : List ImageNode) (key : ℕ) (marks : List Bool) : Type 0 where
  pub size : length marks ≡ 8 * length nodes
  pub sound : (k : ℕ) → IsMarked marks k → IsMet nodes (copy_at k)
  pub root : IsMarked marks (8 * (length nodes - 1))
  pub closed : (k next : ℕ) → key ≤ k → IsMarked marks k → Hands nodes k next → IsMarked marks next

-- whether the node is plain
abbrev pub is_plain : Option ImageNode → Bool
is_plain None = false
is_plain (Some (Plain node)) = true
is_plain (Some (Image x y turn left m child)) = false

abbrev pub is_true : Option Bool → Bool
is_true None = false
is_true (Some b) = b

-- whether the copy with that place is one of a plain node and met
abbrev pub is_kept : List ImageNode → List Bool → ℕ → Bool
is_kept nodes marks key = is_true (slice_get marks key) && is_plain (slice_get nodes (key / 8))

-- those with places below the number
abbrev pub copies_below : List ImageNode → List Bool → ℕ → List Copy
copies_below nodes marks zero = []
copies_below nodes marks (suc key) =
    copies_below nodes marks key ++ (if is_kept nodes marks key then copy_at key ∷ [] else [])

abbrev pub copies_of : List ImageNode → List Bool → List Copy
copies_of nodes marks = copies_below nodes marks (length marks)

-- for each marked copy the place in the list at which it settles
pub record ArePlaces (nodes : List ImageNode) (marks : List Bool) (places : List ℕ) : Type 0 where
  pub whole : length places ≡ length marks
  pub each : (key place : ℕ)
      → IsMarked marks key
      → slice_get places key ≡ Some place
      → IsPlaced nodes (copies_of nodes marks) (copy_at key) place

-- the map is one of the board, which has few enough cells
pub record IsBoardMap (board : Option Grid) (m : GridMap) : Type 0 where
  pub is_map : IsMapOn board m
  pub few : (grid : Grid) → board ≡ Some grid → grid.width * grid.height ≤ MAX_MEMBERS

-- the child's place by the table, under the map of that number
abbrev pub IsPlaceOf : List ℕ → ℕ → ℕ → ℕ → Type 0
IsPlaceOf places m child place = slice_get places (8 * child + m) ≡ Some place

-- the places of the copies with places in the table below the key, and how many of them are copies
-- of plain nodes that are met
pub record ArePlacedBelow (nodes : List ImageNode) (marks : List Bool) (places : List ℕ)
    (key count : ℕ) : Type 0 where
  pub size : length places ≡ key
  pub count_is : count ≡ length (copies_below nodes marks key)
  pub each : (k place : ℕ)
      → IsMarked marks k
      → slice_get places k ≡ Some place
      → IsPlaced nodes (copies_of nodes marks) (copy_at k) place

-- the maps of all copies that are marked are maps of the board
abbrev pub AreBoardMaps : Option Grid → List Bool → Type 0
AreBoardMaps board marks = (key : ℕ) → IsMarked marks key → IsBoardMap board (numbered (key % 8))
