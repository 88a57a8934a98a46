-- What is known of an unfolding before any node of it is made: which copies are met, and where they
-- settle.
use Rattle.std.specs.Prelude.{◌≡◌, ℕ, ◌+◌, ◌/◌, ◌≤◌, Bool, false, List, [], ◌∷◌, ◌++◌, length, map}
use Rattle.std.specs.Prelude.{sum_by, slice_get, Option, Some, None, Result, Ok, Err}
use Rattle.pg_unfold.specs.Prelude.{All, AllZip, IsMarked, Grid, IsNode, Node, MAX_CLAIM_NODES}
use Rattle.pg_unfold.specs.Prelude.{MAX_NODES, Game, IsImageClaim, ImageCert, ImageClaim, ImageNode}
use Rattle.pg_unfold.specs.Prelude.{Plain, board_of}
use Rattle.pg_unfold.specs.Copies.{Copy}
use Rattle.pg_unfold.specs.Flaws.{IsFirstTooLarge}
use Rattle.pg_unfold.specs.Gathered.{AreCounted, IsFull, IsTooMuch}
use Rattle.pg_unfold.specs.Marks.{AreMet, ArePlaces, copies_below, copies_of, copy_at, is_kept}
use Rattle.pg_unfold.specs.Unfolded.{IsCopied}
use Rattle.pg_unfold.specs.declared.laying.Laid.{Laid}
use Rattle.pg_unfold.specs.declared.layout.Layout.{Layout}
use Rattle.pg_unfold.specs.declared.unfolded.ImageFault.{ImageFault}
use Rattle.pg_unfold.specs.declared.unfolded.ImageFault.TheVariants.{Bad, Memory}

-- ---- of a claim

-- how many copies there are
abbrev pub copy_count : Layout → ℕ
copy_count l = length l.marks.items

-- how many nodes the unfolded claim has
abbrev pub size_in : Layout → ℕ
size_in l = l.settled.count

-- the copies that are met of plain nodes, in order
abbrev pub copies_in : ImageClaim → Layout → List Copy
copies_in c l = copies_of c.nodes l.marks.items

-- the numbers of the nodes from which those of the unfolded claim come
abbrev pub origins_in : ImageClaim → Layout → List ℕ
origins_in c l = map (λ copy. copy.node) (copies_in c l)

-- the layout is the claim's, which isn't too large unfolded
pub record IsLaidOut (c : ImageClaim) (l : Layout) : Type 0 where
  pub limits : IsImageClaim c
  pub met : AreMet c.nodes l.marks.items
  pub places : ArePlaces c.nodes l.marks.items l.settled.places.items
  pub size : size_in l ≡ length (copies_in c l)
  pub few : size_in l ≤ MAX_CLAIM_NODES

abbrev pub LaysOutWithin : ImageClaim → ℕ → Option Layout → Type 0
LaysOutWithin c room None = IsTooMuch c room
LaysOutWithin c room (Some l) = IsLaidOut c l × (size_in l ≤ room)

-- ---- its nodes, one after the other

-- what the copy with that place in the table of marks gives: none, or its node where it is one of a
-- plain node and met
abbrev pub IsNextCopy : Option Grid → List ImageNode → List Bool → ℕ → Option Node → Type 0
IsNextCopy board nodes marks key None = is_kept nodes marks key ≡ false
IsNextCopy board nodes marks key (Some image) = (source : Node) × IsMarked marks key
    × (slice_get nodes (key / 8) ≡ Some (Plain source))
    × IsCopied board nodes (copies_of nodes marks) (copy_at key) image

-- these are the nodes of the unfolded claim that the copies with lower numbers give
pub record AreCopiedBelow (g : Game) (c : ImageClaim) (l : Layout) (key : ℕ)
    (nodes : List Node) : Type 0 where
  pub each : AllZip (IsCopied (board_of g.field) c.nodes (copies_in c l))
      (copies_below c.nodes l.marks.items key) nodes
  pub limits : All IsNode nodes

-- with one node more, where there is one
abbrev pub with_next : List Node → Option Node → List Node
with_next done None = done
with_next done (Some node) = done ++ node ∷ []

-- ---- of several claims

-- each claim has its layout, and together they have no more nodes than a certificate may have
pub record AreLaidOut (c : ImageCert) (layouts : List Layout) : Type 0 where
  pub each : AllZip IsLaidOut c.claims layouts
  pub few : sum_by size_in layouts ≤ MAX_NODES

-- these claims have been laid out
pub record AreLaid (claims : List ImageClaim) (laid : Laid) : Type 0 where
  pub each : AllZip IsLaidOut claims laid.layouts.items
  pub counted : AreCounted claims laid.room
  pub sizes : sum_by size_in laid.layouts.items + laid.room ≡ MAX_NODES

-- one more claim has been laid out
pub record IsLaidNext (c : ImageClaim) (old new : Laid) : Type 0 where
  pub layout : Layout
  pub laid : IsLaidOut c layout
  pub layouts : new.layouts.items ≡ old.layouts.items ++ layout ∷ []
  pub room : new.room + size_in layout ≡ old.room

abbrev pub LaysNext : ImageClaim → Laid → Laid → Option ℕ → Type 0
LaysNext c old new None = IsLaidNext c old new
LaysNext c old new (Some last) = IsFull c old.room last

abbrev pub TellsLaid : List ImageClaim → Result Laid ImageFault → Type 0
TellsLaid claims (Ok laid) = AreLaid claims laid
TellsLaid claims (Err (Bad claim node why)) = (why ≡ 4) × IsFirstTooLarge claims claim node
TellsLaid claims (Err Memory) = Unit {0}
