-- What there is to say of a text that comes piece by piece.
use Rattle.std.specs.Prelude.{◌≡◌, ◌≤◌, length, List, [], ◌∷◌, ◌++◌, Ok, IsErrAnd, ⊤}
use Rattle.pg_base.specs.Texts.{Bytes}
use Rattle.pg_text.specs.declared.error.FileError.{FileError}
use Rattle.pg_text.specs.declared.error.FileError.TheVariants as outcomes
use Rattle.pg_judge.specs.Prelude.{Game, IsWithinLimits, BeginCert, parts_of, IsFirstFault, IsValid}
use Rattle.pg_judge.specs.Prelude.{Cert, Part, certificate, IsFed, parts_told, size_of, AreAlike}
use Rattle.pg_judge.specs.Prelude.{number_of, CertReader}
use Rattle.pg_check.specs.Checking.{StandsFor as IsChecked}
use Rattle.pg_judge.specs.Heads.{heads_in, heads_of}
use Rattle.pg_judge.specs.declared.claim_head.ClaimHead.{ClaimHead}
use Rattle.pg_judge.specs.declared.fault.JudgeFault.{JudgeFault}
use Rattle.pg_judge.specs.declared.fault.JudgeFault.TheVariants as faults
use Rattle.pg_judge.specs.declared.judging.Judging.{Judging}
use Rattle.pg_judge.specs.declared.told.Told.{Told}

-- a fault of a text
abbrev pub of_form : FileError → JudgeFault
of_form (outcomes.Bad number line) = faults.Form number line
of_form outcomes.Memory = faults.Memory

-- the text says a certificate that is valid for the game, with these claims
abbrev pub SaysValid : Game → Bytes → List ClaimHead → Type 0
SaysValid g text heads =
    (cert : Cert) × (certificate text ≡ Ok cert) × IsValid g cert × (heads ≡ heads_of cert)

-- what stands against a text: its fault of form, or the first fault of the certificate that it
-- says; nothing is said where memory is wanting
abbrev pub StandsAgainst : Game → Bytes → JudgeFault → Type 0
StandsAgainst g text (faults.Form number line) =
    IsErrAnd (certificate text) (λ bad. (number ≡ number_of bad.0) × (line ≡ bad.1))
StandsAgainst g text (faults.Reject claim node why) =
    (cert : Cert) × (certificate text ≡ Ok cert) × IsFirstFault g cert claim node why
StandsAgainst g text faults.Memory = ⊤

-- ---- while the text comes

-- these parts were told
pub record HasTold (t : Told) (fed : List Part) : Type 0 where
  pub checked : IsChecked t.checking fed
  pub heads : t.heads.items ≡ heads_in fed

-- parts were told, and this one more begins a certificate with them
pub record IsDue (t : Told) (part : Part) : Type 0 where
  pub fed : List Part
  pub told : HasTold t fed
  pub begins : BeginCert (fed ++ part ∷ [])

-- all parts of a certificate were told
pub record IsComplete (t : Told) : Type 0 where
  pub cert : Cert
  pub limits : IsWithinLimits cert
  pub told : HasTold t (parts_of cert)

-- the reader has been fed this text, and the parts that it makes were told
pub record AreFed (reader : CertReader) (t : Told) (text : Bytes) : Type 0 where
  pub read : IsFed reader text
  pub told : HasTold t (parts_told text)

-- some text is the one with which they were fed
pub record HaveBeenFed (reader : CertReader) (t : Told) : Type 0 where
  pub text : Bytes
  pub fed : AreFed reader t text

-- The judging stands for this text: of one that is like it and no longer, all that came was told.
pub record StandsFor (j : Judging) (text : Bytes) : Type 0 where
  pub short : Bytes
  pub fed : AreFed j.reader j.told short
  pub size : j.size ≡ size_of text
  pub fewer : length short ≤ length text
  pub alike : AreAlike text short

-- it stands for some text
pub record IsReady (j : Judging) : Type 0 where
  pub text : Bytes
  pub stands : StandsFor j text

-- from the first state to the second, these bytes came
pub record HasCome (first now : Judging) (bytes : Bytes) : Type 0 where
  pub game : now.told.checking.game ≡ first.told.checking.game
  pub stands : (text : Bytes) → StandsFor first text → StandsFor now (text ++ bytes)
