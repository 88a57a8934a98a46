-- What a checking that is fed part after part stands for.
use Rattle.std.specs.Prelude.{◌≡◌, ℕ, ◌+◌, ◌<◌, ◌≤◌, List, ◌++◌, length, map, drop, slice_get}
use Rattle.std.specs.Prelude.{Option, Some, None, Result, Ok, Err}
use Rattle.pg_check.specs.Prelude.{Game, IsWithinLimits, all_parts, parts_of, BeginCert}
use Rattle.pg_check.specs.Prelude.{AreSoundBefore, IsFirstFault, IsValid, IsValidClaim, Cert, Claim}
use Rattle.pg_check.specs.Prelude.{Part, kept, AreMarksOf}
use Rattle.pg_cert.specs.declared.part.Part.TheVariants as parts
use Rattle.pg_check.specs.Present.{IsKnownOf}
use Rattle.pg_check.specs.Tester.{IsReadyFor}
use Rattle.pg_check.specs.declared.checking.Checking.{Checking}
use Rattle.pg_check.specs.declared.checking.Rejected.{Rejected}
use Rattle.pg_check.specs.declared.present.Present.{Present}

-- the claims before this one are valid
abbrev pub AreValidBefore : Game → List Claim → ℕ → Type 0
AreValidBefore g claims i =
    (j : ℕ) (c : Claim) → j < i → slice_get claims j ≡ Some c → IsValidClaim g c

-- the claim in hand of a certificate, of which this rest of its parts is still to come
pub record IsInHand (g : Game) (c : Present) (begun : ℕ) (cert : Cert)
    (rest : List Part) : Type 0 where
  pub before : ℕ
  pub begun_is : begun ≡ before + 1
  pub claim : Claim
  pub at : slice_get cert.claims before ≡ Some claim
  pub valid : AreValidBefore g cert.claims before
  pub known : IsKnownOf c claim (length (kept c.marks))
  pub within : length (kept c.marks) ≤ length claim.nodes
  pub made : AreMarksOf g c.marks
  pub sound : AreSoundBefore g claim (length (kept c.marks))
  pub rest_is : rest ≡ map parts.Node (drop (length (kept c.marks)) claim.nodes)
      ++ all_parts (drop begun cert.claims)

-- without a fault so far
abbrev pub Goes : Game → Option Present → ℕ → Cert → List Part → Type 0
Goes g None begun cert rest = (begun ≡ 0) × (rest ≡ parts_of cert)
Goes g (Some c) begun cert rest = IsInHand g c begun cert rest

-- the first fault, where there is one
abbrev pub Stands : Game → Option Rejected → Option Present → ℕ → Cert → List Part → Type 0
Stands g (Some r) present begun cert rest = IsFirstFault g cert r.claim r.node r.why
Stands g None present begun cert rest = Goes g present begun cert rest

-- these parts have been checked: whatever certificate within the limits they begin, its first fault
-- among them has been found
pub record StandsFor (c : Checking) (fed : List Part) : Type 0 where
  pub ready : IsReadyFor c.tester c.game.now
  pub told : (cert : Cert) (rest : List Part)
      → IsWithinLimits cert
      → fed ++ rest ≡ parts_of cert
      → Stands c.game.now c.found c.present c.begun cert rest

-- a list for which the checking stands, and that with these parts begins a certificate
pub record AreNext (c : Checking) (coming : List Part) : Type 0 where
  pub fed : List Part
  pub stands : StandsFor c fed
  pub begins : BeginCert (fed ++ coming)

-- the checking stands for all parts of a certificate
pub record IsWhole (c : Checking) : Type 0 where
  pub cert : Cert
  pub limits : IsWithinLimits cert
  pub stands : StandsFor c (parts_of cert)

-- accepted just where the certificate is valid, and else its first fault
abbrev pub IsVerdict : Result Unit Rejected → Game → Cert → Type 0
IsVerdict (Ok t) g cert = IsValid g cert
IsVerdict (Err r) g cert = IsFirstFault g cert r.claim r.node r.why
