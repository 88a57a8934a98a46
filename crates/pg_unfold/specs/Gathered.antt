-- What is gathered while claims are unfolded one after the other.
use Rattle.std.specs.Prelude.{◌≡◌, ℕ, ◌+◌, ◌<◌, ◌≤◌, ◌⊎◌, List, [], ◌∷◌, ◌++◌, length, map, sum}
use Rattle.std.specs.Prelude.{Option, Some, None, Result, Ok, Err}
use Rattle.pg_unfold.specs.Prelude.{All, AllZip, IsClaim, Claim, MAX_CLAIM_NODES, MAX_NODES, Game}
use Rattle.pg_unfold.specs.Prelude.{ImageClaim}
use Rattle.pg_unfold.specs.Flaws.{HasSize, IsFirstTooLarge}
use Rattle.pg_unfold.specs.Unfolded.{IsUnfolded, AreUnfolded}
use Rattle.pg_unfold.specs.declared.unfolded.ImageFault.{ImageFault}
use Rattle.pg_unfold.specs.declared.unfolded.ImageFault.TheVariants.{Bad, Memory}
use Rattle.pg_unfold.specs.declared.unfolding.Gathered.{Gathered}
use Rattle.pg_unfold.specs.declared.unfolding.UnfoldedClaim.{UnfoldedClaim}

-- the claim has more nodes unfolded than there is room for, in a claim or with those before it
pub record IsTooMuch (c : ImageClaim) (room : ℕ) : Type 0 where
  pub size : ℕ
  pub is : HasSize c size
  pub much : (MAX_CLAIM_NODES < size) ⊎ (room < size)

-- the claim unfolded, for which there is room
pub record IsTaken (g : Game) (c : ImageClaim) (claim : Claim) (origins : List ℕ)
    (room : ℕ) : Type 0 where
  pub unfolded : IsUnfolded g c claim origins
  pub limits : IsClaim claim
  pub few : length claim.nodes ≤ MAX_CLAIM_NODES
  pub within : length claim.nodes ≤ room

abbrev pub UnfoldsWithin : Game → ImageClaim → ℕ → Option UnfoldedClaim → Type 0
UnfoldsWithin g c room None = IsTooMuch c room
UnfoldsWithin g c room (Some u) = IsTaken g c u.claim u.origins room

-- one more claim has been unfolded
pub record IsGatheredNext (g : Game) (c : ImageClaim) (old new : Gathered) : Type 0 where
  pub claim : Claim
  pub origins : List ℕ
  pub taken : IsTaken g c claim origins old.room
  pub claims : new.claims.items ≡ old.claims.items ++ claim ∷ []
  pub sources : new.sources.items ≡ old.sources.items ++ origins ∷ []
  pub room : new.room + length claim.nodes ≡ old.room

-- there is no room for the claim's nodes, and this is the number of its last node
pub record IsFull (c : ImageClaim) (room last : ℕ) : Type 0 where
  pub much : IsTooMuch c room
  pub at : last + 1 ≡ length c.nodes

abbrev pub TakesNext : Game → ImageClaim → Gathered → Gathered → Option ℕ → Type 0
TakesNext g c old new None = IsGatheredNext g c old new
TakesNext g c old new (Some last) = IsFull c old.room last

-- these claims have so many nodes unfolded that a certificate may have that many more
pub record AreCounted (claims : List ImageClaim) (room : ℕ) : Type 0 where
  pub sizes : List ℕ
  pub are : AllZip HasSize claims sizes
  pub each : All (λ size. size ≤ MAX_CLAIM_NODES) sizes
  pub together : sum sizes + room ≡ MAX_NODES

-- these claims have been unfolded
pub record AreGathered (g : Game) (claims : List ImageClaim) (gathered : Gathered) : Type 0 where
  pub unfolded : AreUnfolded g claims gathered.claims.items gathered.sources.items
  pub limits : All IsClaim gathered.claims.items
  pub counted : AreCounted claims gathered.room
  pub lengths : counted.sizes ≡ map (λ (claim : Claim). length claim.nodes) gathered.claims.items

abbrev pub TellsUnfolded : Game → List ImageClaim → Result Gathered ImageFault → Type 0
TellsUnfolded g claims (Ok gathered) = AreGathered g claims gathered
TellsUnfolded g claims (Err (Bad claim node why)) = (why ≡ 4) × IsFirstTooLarge claims claim node
TellsUnfolded g claims (Err Memory) = Unit {0}
