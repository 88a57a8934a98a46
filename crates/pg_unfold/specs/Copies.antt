-- A node under a map is a copy of it: which copies are met from a claim's root, and at which copy
-- of a plain node one settles.
use Rattle.std.specs.Prelude.{◌≡◌, ℕ, zero, suc, ◌+◌, ◌<◌, ◌⊎◌, List, length, map, slice_get, Some}
use Rattle.pg_unfold.specs.Prelude.{AllPairs, Contains, Body, Move, Weaker, ImageNode, Plain, Image}
use Rattle.pg_unfold.specs.Prelude.{GridMap, number_of, identity, followed_by}
use Rattle.pg_cert.specs.declared.node.Body.TheVariants.{All}

-- the node of that number under the map
pub record Copy : Type 0 where
  pub node : ℕ
  pub map : GridMap

-- the node is plain
abbrev pub IsPlain : ImageNode → Type 0
IsPlain (Plain node) = Unit {0}
IsPlain (Image x y turn left m child) = ⊥

-- the body names the child
abbrev pub NamesChild : Body → ℕ → Type 0
NamesChild (Move point j) child = child ≡ j
NamesChild (All replies) child = Contains (map (λ r. r.child) replies) child
NamesChild (Weaker j) child = child ≡ j
NamesChild _ child = ⊥

-- an image under a map stands for its child under the image's map first, and then that one
abbrev pub StandsFor : ImageNode → Copy → Copy → Type 0
StandsFor (Plain node) c next = ⊥
StandsFor (Image x y turn left m child) c next =
    next ≡ record { node = child; map = followed_by m c.map }

-- a plain node leads to its children under the map that it has itself, an image to what it stands
-- for
abbrev pub LeadsTo : ImageNode → Copy → Copy → Type 0
LeadsTo (Plain node) c next = NamesChild node.body next.node × (next.map ≡ c.map)
LeadsTo (Image x y turn left m child) c next = StandsFor (Image x y turn left m child) c next

-- the copy's node is among the nodes, and is so
pub record IsAt (nodes : List ImageNode) (c : Copy) (P : ImageNode → Type 0) : Type 0 where
  pub node : ImageNode
  pub at : slice_get nodes c.node ≡ Some node
  pub holds : P node

-- met from the root, which is the last node under the map that leaves every point, by so many steps
abbrev pub IsMetBy : List ImageNode → ℕ → Copy → Type 0
IsMetBy nodes zero c = (c.node + 1 ≡ length nodes) × (c.map ≡ identity)
IsMetBy nodes (suc n) c =
    (before : Copy) × IsMetBy nodes n before × IsAt nodes before (λ node. LeadsTo node before c)

abbrev pub IsMet : List ImageNode → Copy → Type 0
IsMet nodes c = (n : ℕ) × IsMetBy nodes n c

-- the copy settles at the one of a plain node: itself, or where what it stands for settles
abbrev pub SettlesBy : List ImageNode → ℕ → Copy → Copy → Type 0
SettlesBy nodes zero c plain = IsAt nodes c IsPlain × (plain ≡ c)
SettlesBy nodes (suc n) c plain =
    (next : Copy) × IsAt nodes c (λ node. StandsFor node c next) × SettlesBy nodes n next plain

abbrev pub Settles : List ImageNode → Copy → Copy → Type 0
Settles nodes c plain = (n : ℕ) × SettlesBy nodes n c plain

-- of two copies that of the lower node comes first, and of one node that under the map of the lower
-- number
abbrev pub ComesBefore : Copy → Copy → Type 0
ComesBefore a b = (a.node < b.node) ⊎ ((a.node ≡ b.node) × (number_of a.map < number_of b.map))

-- the copies of plain nodes that are met, in order
pub record AreCopies (nodes : List ImageNode) (copies : List Copy) : Type 0 where
  pub met : (c : Copy) → Contains copies c → IsMet nodes c × IsAt nodes c IsPlain
  pub all : (c : Copy) → IsMet nodes c → IsAt nodes c IsPlain → Contains copies c
  pub ascending : AllPairs ComesBefore copies

-- what the copy settles at stands at that place of the list
pub record IsPlaced (nodes : List ImageNode) (copies : List Copy) (c : Copy)
    (place : ℕ) : Type 0 where
  pub plain : Copy
  pub settles : Settles nodes c plain
  pub at : slice_get copies place ≡ Some plain
