-- The certificate for which one as a file says it stands, and what stands against it.
use Rattle.std.specs.Prelude.{◌≡◌, ◌⊎◌, ℕ, List, length, map, Option, Some, None, Result, Ok, Err}
use Rattle.std.specs.Prelude.{slice_get, ⊤}
use Rattle.pg_evidence.specs.Prelude.{IsWithinLimits, IsFirstFault, IsValid, Cert, Claim, Game}
use Rattle.pg_evidence.specs.Prelude.{ImageCert, IsUnfoldedCert, Unfolded, Halt, Refused, Stopped}
use Rattle.pg_messages.specs.declared.refusal.Refusal.{Refusal}
use Rattle.pg_messages.specs.declared.refusal.Refusal.TheVariants.{Rejected, RejectedImage}
use Rattle.pg_unfold.specs.Flaws.{IsFaultless, IsFirstFault as IsFirstImageFault}
use Rattle.pg_evidence.specs.declared.evidence.Evidence.{Evidence}
use Rattle.pg_evidence.specs.declared.evidence.Evidence.TheVariants.{Plain, Folded}
use Rattle.pg_evidence.specs.declared.standing.Standing.{Standing}

-- the certificate with images has no fault, and this is its unfolding, which is within the limits
pub record Unfolds (g : Game) (c : ImageCert) (u : Unfolded) : Type 0 where
  pub faultless : IsFaultless g c
  pub unfolded : IsUnfoldedCert g c u
  pub limits : IsWithinLimits u.cert

-- one of plain nodes stands for itself; one with images, where it has no fault, for that of its
-- unfolding
abbrev pub StandsFor : Game → Evidence → Cert → Type 0
StandsFor g (Plain c) cert = cert ≡ c
StandsFor g (Folded c) cert = (u : Unfolded) × Unfolds g c u × (cert ≡ u.cert)

-- the certificate for which it stands is valid
abbrev pub ShowsValid : Game → Evidence → Type 0
ShowsValid g e = (c : Cert) × StandsFor g e c × IsValid g c

-- ---- faults

-- the node at this place of an unfolded claim came from the node of that number
pub record CameFrom (sources : List (List ℕ)) (claim place node : ℕ) : Type 0 where
  pub origins : List ℕ
  pub at_claim : slice_get sources claim ≡ Some origins
  pub at_place : slice_get origins place ≡ Some node

-- it is known from which node the one at this place of an unfolded claim came
abbrev pub HasOrigin : List (List ℕ) → ℕ → ℕ → Type 0
HasOrigin sources claim place = (node : ℕ) × CameFrom sources claim place node

-- the first fault of the certificate for which it stands, said of the node from which the faulty
-- one came
abbrev pub HasFault : Game → Evidence → ℕ → ℕ → ℕ → Type 0
HasFault g (Plain c) claim node why = IsFirstFault g c claim node why
HasFault g (Folded c) claim node why = (u : Unfolded) × Unfolds g c u
    × (place : ℕ) × IsFirstFault g u.cert claim place why
    × CameFrom u.sources claim place node

-- the first fault by which it stands for no certificate
abbrev pub HasImageFault : Game → Evidence → ℕ → ℕ → ℕ → Type 0
HasImageFault g (Plain c) claim node why = ⊥
HasImageFault g (Folded c) claim node why = IsFirstImageFault g c claim node why

-- it stands for no certificate
abbrev pub RejectsImages : Game → Evidence → Refusal → Type 0
RejectsImages g e refusal = (claim : ℕ) × (node : ℕ) × (why : ℕ) × HasImageFault g e claim node why
    × (refusal ≡ RejectedImage claim node why)

-- it stands for a certificate that isn't valid
abbrev pub RejectsNodes : Game → Evidence → Refusal → Type 0
RejectsNodes g e refusal = (claim : ℕ) × (node : ℕ) × (why : ℕ) × HasFault g e claim node why
    × (refusal ≡ Rejected claim node why)

-- it is rejected at its first fault
abbrev pub RejectsEvidence : Game → Evidence → Refusal → Type 0
RejectsEvidence g e refusal = RejectsImages g e refusal ⊎ RejectsNodes g e refusal

-- ---- what the code has made

-- as many numbers as the claims have nodes
abbrev pub HaveSources : List Claim → Option (List (List ℕ)) → Type 0
HaveSources claims None = ⊤
HaveSources claims (Some sources) = map length sources ≡ map (λ claim. length claim.nodes) claims

-- the certificate is within the limits, and it is known from which node each of its nodes came
pub record IsTraced (s : Standing) : Type 0 where
  pub limits : IsWithinLimits s.cert
  pub sources : HaveSources s.cert.claims s.sources

-- the node at this place came from the node of that number: from itself, where nothing was unfolded
abbrev pub CameFromIn : Option (List (List ℕ)) → ℕ → ℕ → ℕ → Type 0
CameFromIn None claim place node = node ≡ place
CameFromIn (Some sources) claim place node = CameFrom sources claim place node

-- it is known from which node the one at this place came
abbrev pub HasSource : Option (List (List ℕ)) → ℕ → ℕ → Type 0
HasSource sources claim place = (node : ℕ) × CameFromIn sources claim place node

-- the certificate for which it stands, with the nodes from which those of an unfolding came
abbrev pub IsStanding : Game → Evidence → Standing → Type 0
IsStanding g (Plain c) s = (s.cert ≡ c) × (s.sources ≡ None)
IsStanding g (Folded c) s =
    (u : Unfolded) × Unfolds g c u × (s.cert ≡ u.cert) × (s.sources ≡ Some u.sources)

-- the first fault of the certificate, said of the node from which the faulty one came
pub record HasFaultIn (g : Game) (s : Standing) (claim node why : ℕ) : Type 0 where
  pub place : ℕ
  pub first : IsFirstFault g s.cert claim place why
  pub from : CameFromIn s.sources claim place node

-- the certificate for which it stands was made, or it stands for none; where memory is wanting
-- nothing is said
abbrev pub MakesStanding : Game → Evidence → Result Standing Halt → Type 0
MakesStanding g e (Ok s) = IsStanding g e s
MakesStanding g e (Err (Refused refusal)) = RejectsImages g e refusal
MakesStanding g e (Err (Stopped stop)) = ⊤
