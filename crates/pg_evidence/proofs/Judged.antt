-- What a text says, and what is found of it.
use Rattle.std.proofs.Common.{◌≡◌, ℕ, ◌+◌, Bool, true, false, nat_lt, [], length, take, Option}
use Rattle.std.proofs.Common.{Some, None, Result, Ok, Err, refl, sym, ◌∙◌, ap, subst, if◌then◌else◌}
use Rattle.std.specs.Prelude.{IsErrAnd}
use Rattle.pg_evidence.proofs.Common.{and_then, Bytes, Holding, Cert, certificate, IsReadAs}
use Rattle.pg_evidence.proofs.Common.{number_of, Fault, Game, ImageCert, image_certificate}
use Rattle.pg_evidence.proofs.Common.{certificate_fault, or_halt, Halt}
use Rattle.pg_io.specs.Reading.{IsFile, IsWhole, Pours}
use Rattle.pg_cert_lines.specs.declared.fault.Fault.TheVariants.{Size}
use Rattle.pg_cert_files.specs.declared.limits.TheConstants.{MAX_CERT_BYTES}
use Rattle.pg_image.specs.Gathering.{said_within}
use Rattle.pg_image.proofs.Gatherings.{whole_within}
use Rattle.pg_talk.specs.Reading.{IsReadAs as IsHeldAs}
use Rattle.pg_talk.proofs.Openings.{cut_same, opens_whole, read_bad, whole_read}
use Rattle.pg_text.specs.declared.error.FileError.{FileError}
use Rattle.pg_text.specs.declared.error.FileError.TheVariants as outcomes
use Rattle.pg_evidence.specs.Arriving.{Arrives, HasArrived}
use Rattle.pg_evidence.specs.Evidence.{OpensEvidence, evidence, evidence_held, has_images}
use Rattle.pg_evidence.specs.Incoming.{HasCome, HasTaken, game_of}
use Rattle.pg_evidence.specs.Verdicts.{IsJudgedAs, JudgesEvidence}
use Rattle.pg_evidence.specs.declared.arriving.Arriving.{Arriving}
use Rattle.pg_evidence.specs.declared.evidence.Evidence.{Evidence}
use Rattle.pg_evidence.specs.declared.evidence.Evidence.TheVariants.{Plain, Folded}
use Rattle.pg_evidence.specs.declared.incoming.Incoming.{Incoming}
use Rattle.pg_evidence.specs.declared.verdict.Verdict.{Verdict}
use Rattle.pg_evidence.proofs.Coming.{arrive_none, come_none}

-- ---- in which form a text is read

plain_way : (text : Bytes)
    → has_images text ≡ false
    → evidence text ≡ and_then (certificate text) (λ (c : Cert). Ok (Plain c))
plain_way text none = ap (λ (b : Bool). if b
    then and_then (image_certificate text) (λ (c : ImageCert). Ok (Folded c))
    else and_then (certificate text) (λ (c : Cert). Ok (Plain c))) none

folded_way : (text : Bytes)
    → has_images text ≡ true
    → evidence text ≡ and_then (image_certificate text) (λ (c : ImageCert). Ok (Folded c))
folded_way text has = ap (λ (b : Bool). if b
    then and_then (image_certificate text) (λ (c : ImageCert). Ok (Folded c))
    else and_then (certificate text) (λ (c : Cert). Ok (Plain c))) has

pub said_plain : (text : Bytes) (c : Cert)
    → has_images text ≡ false
    → certificate text ≡ Ok c
    → evidence text ≡ Ok (Plain c)
said_plain text c none e = plain_way text none
    ∙ ap (λ (r : Result Cert (Fault × ℕ)). and_then r (λ (c : Cert). Ok (Plain c))) e

pub said_folded : (text : Bytes) (c : ImageCert)
    → has_images text ≡ true
    → image_certificate text ≡ Ok c
    → evidence text ≡ Ok (Folded c)
said_folded text c has e = folded_way text has
    ∙ ap (λ (r : Result ImageCert (Fault × ℕ)). and_then r (λ (c : ImageCert). Ok (Folded c))) e

-- what is said as one of plain nodes was read so
pub read_plain : (text : Bytes) (c : Cert) → evidence text ≡ Ok (Plain c) → certificate text ≡ Ok c
read_plain text c said = go (has_images text) refl where
  folded : (r : Result ImageCert (Fault × ℕ))
      → and_then r (λ (i : ImageCert). Ok (Folded i)) ≡ Ok (Plain c)
      → ⊥
  folded (Ok i) e = cc e
  folded (Err fault) e = cc e

  plain : (r : Result Cert (Fault × ℕ))
      → and_then r (λ (d : Cert). Ok (Plain d)) ≡ Ok (Plain c)
      → r ≡ Ok c
  plain (Ok d) e = let same : d ≡ c = cc e in ap (λ (x : Cert). Ok x) same
  plain (Err fault) e = absurd (cc e)

  go : (b : Bool) → has_images text ≡ b → certificate text ≡ Ok c
  go true has = absurd (folded (image_certificate text) (sym (folded_way text has) ∙ said))
  go false none = plain (certificate text) (sym (plain_way text none) ∙ said)

-- the text has this fault
abbrev pub HasFormFault : {A : Type 0} → Result A (Fault × ℕ) → ℕ → ℕ → Type 0
HasFormFault r number line = IsErrAnd r (λ bad. (number ≡ number_of bad.0) × (line ≡ bad.1))

-- a fault of the text as one of plain nodes is a fault of it
pub bad_plain : (text : Bytes) (number line : ℕ)
    → has_images text ≡ false
    → HasFormFault (certificate text) number line
    → HasFormFault (evidence text) number line
bad_plain text number line none bad =
    subst (λ (r : Result Evidence (Fault × ℕ)). HasFormFault r number line)
    (sym (plain_way text none)) (go (certificate text) bad) where
      go : (r : Result Cert (Fault × ℕ))
          → HasFormFault r number line
          → HasFormFault (and_then r (λ (c : Cert). Ok (Plain c))) number line
      go (Ok c) h = absurd h
      go (Err fault) h = h

-- a fault of the text as one with images is a fault of it
pub bad_folded : (text : Bytes) (number line : ℕ)
    → has_images text ≡ true
    → HasFormFault (image_certificate text) number line
    → HasFormFault (evidence text) number line
bad_folded text number line has bad =
    subst (λ (r : Result Evidence (Fault × ℕ)). HasFormFault r number line)
    (sym (folded_way text has)) (go (image_certificate text) bad) where
      go : (r : Result ImageCert (Fault × ℕ))
          → HasFormFault r number line
          → HasFormFault (and_then r (λ (c : ImageCert). Ok (Folded c))) number line
      go (Ok c) h = absurd h
      go (Err fault) h = h

-- what reading it as one with images gives is what it says
pub read_as_folded : (text : Bytes) (error : FileError)
    → has_images text ≡ true
    → IsReadAs {A = ImageCert} (Err error) (said_within text text)
    → IsReadAs {A = Evidence} (Err error) (evidence text)
read_as_folded text outcomes.Memory has h = tt
read_as_folded text (outcomes.Bad number line) has h = bad_folded text number line has
    (subst (λ (r : Result ImageCert (Fault × ℕ)). HasFormFault r number line) (whole_within text) h)

-- ---- what a name holds

-- what the text says
abbrev pub held_text : Bytes → Result Evidence Halt
held_text text = evidence_held (Some text)

pub held_ok : (text : Bytes) (e : Evidence) → evidence text ≡ Ok e → held_text text ≡ Ok e
held_ok text e is =
    ap (or_halt (λ (fault : Fault × ℕ). certificate_fault (number_of fault.0) fault.1)) is

pub held_bad : (text : Bytes) (number line : ℕ)
    → HasFormFault (evidence text) number line
    → held_text text ≡ Err (certificate_fault number line)
held_bad text number line h = read_bad number_of certificate_fault (evidence text) number line h

-- one byte more than the limit tells as much as the whole file
long_plain : (text : Bytes)
    → nat_lt MAX_CERT_BYTES (length text) ≡ true
    → certificate text ≡ Err (Size, 0)
unfolding certificate
long_plain text long = rw long refl

long_folded : (text : Bytes)
    → nat_lt MAX_CERT_BYTES (length text) ≡ true
    → image_certificate text ≡ Err (Size, 0)
unfolding image_certificate
long_folded text long = rw long refl

long_said : (text : Bytes)
    → nat_lt MAX_CERT_BYTES (length text) ≡ true
    → evidence text ≡ Err (Size, 0)
long_said text long = go (has_images text) refl where
  go : (b : Bool) → has_images text ≡ b → evidence text ≡ Err (Size, 0)
  go true has = folded_way text has
      ∙ ap (λ (r : Result ImageCert (Fault × ℕ)). and_then r (λ (c : ImageCert). Ok (Folded c)))
      (long_folded text long)
  go false none = plain_way text none
      ∙ ap (λ (r : Result Cert (Fault × ℕ)). and_then r (λ (c : Cert). Ok (Plain c)))
      (long_plain text long)

held_cut : (all : Bytes) → held_text (take (MAX_CERT_BYTES + 1) all) ≡ held_text all
held_cut all = ap (or_halt (λ (fault : Fault × ℕ). certificate_fault (number_of fault.0) fault.1))
    (cut_same MAX_CERT_BYTES evidence (Err (Size, 0)) long_said all)

pub whole_evidence : (o : Option Bytes) (text : Bytes)
    → IsWhole o MAX_CERT_BYTES text
    → evidence_held o ≡ held_text text
whole_evidence o text whole = whole_read MAX_CERT_BYTES held_text held_cut o text whole

pub opens_evidence : (h : Option Holding) (name text : Bytes) (r : Result Evidence Halt)
    → IsFile h name MAX_CERT_BYTES text
    → IsHeldAs (λ x. x) (held_text text) r
    → OpensEvidence h name r
opens_evidence h name text r whole is =
    opens_whole MAX_CERT_BYTES held_text held_cut (λ (x : Evidence). x) h name text r whole is

-- ---- what was judged as it came

-- what came is what the name holds
pub judged_evidence : (h : Option Holding) (g : Game) (name : Bytes) (before after : Incoming)
    (r : Result Verdict Halt)
    → game_of before ≡ g
    → HasTaken before []
    → Pours h name MAX_CERT_BYTES (λ first now bytes. HasCome first now bytes) before after
    → ((text : Bytes) → HasTaken after text → game_of after ≡ g → IsJudgedAs g (held_text text) r)
    → JudgesEvidence h g name r
judged_evidence None g name before after r same taken pours judged = tt
judged_evidence (Some held) g name before after r same taken (text, whole, goes) judged =
    let come : HasCome before after text = goes before [] (come_none before) in
    subst (λ (read : Result Evidence Halt). IsJudgedAs g read r)
    (sym (whole_evidence (held name) text whole))
    (judged text (come.taken [] taken) (come.game ∙ same))

-- ---- what was gathered as it came

-- what arrived is what the name holds
pub arrived_evidence : (h : Option Holding) (name : Bytes) (before after : Arriving)
    → (r : Result Evidence Halt) → HasArrived before []
    → Pours h name MAX_CERT_BYTES (λ first now bytes. Arrives first now bytes) before after
    → ((text : Bytes) → HasArrived after text → IsHeldAs (λ x. x) (held_text text) r)
    → OpensEvidence h name r
arrived_evidence None name before after r none pours read = tt
arrived_evidence (Some held) name before after r none (text, whole, goes) read =
    let come : Arrives before after text = goes before [] (arrive_none before) in
    opens_evidence (Some held) name text r whole (read text (come [] none))
