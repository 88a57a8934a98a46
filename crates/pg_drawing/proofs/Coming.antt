-- What a name holds, from what was gathered of it and cut short.
use Rattle.std.proofs.Common.{◌≡◌, ℕ, ◌+◌, ◌<◌, ◌≤◌, [], ◌++◌, length, take, Option, Some, None}
use Rattle.std.proofs.Common.{Result, Ok, Err, refl, sym, ap, ◌∙◌, subst, append_assoc, arith}
use Rattle.std.specs.Prelude.{IsErrAnd}
use Rattle.std.proofs.lemmas.List.{append-nil, length-append}
use Rattle.pg_drawing.proofs.Common.{Bytes, Cert, FileError, Halt, Holding, Refused, Stopped}
use Rattle.pg_drawing.proofs.Common.{certificate_held}
use Rattle.pg_io.specs.Reading.{Pours}
use Rattle.pg_text.specs.declared.error.FileError.TheVariants as errors
use Rattle.pg_cert_files.specs.CertFile.{certificate}
use Rattle.pg_cert_files.specs.Gatherer.{HasGathered, HasGatheredShort}
use Rattle.pg_cert_files.specs.Pieces.{size_of}
use Rattle.pg_cert_files.specs.Shortened.{short_result}
use Rattle.pg_cert_lines.specs.Views.{IsReadAs, number_of as certificate_fault_number}
use Rattle.pg_cert_files.specs.declared.cert_gathering.CertGathering.{CertGathering}
use Rattle.pg_cert_lines.specs.declared.fault.Fault.{Fault}
use Rattle.pg_cert_lines.specs.declared.fault.Fault.TheVariants as form_faults
use Rattle.pg_cert_files.specs.declared.limits.TheConstants.{MAX_CERT_BYTES}
use Rattle.pg_cert_files.proofs.ShortTexts.{alike_more, alike_on, certificates_alike}
use Rattle.pg_cert_files.proofs.WholeFile.{too_large}
use Rattle.pg_judge.proofs.ShortCerts.{error_same, says_like}
use Rattle.pg_talk.specs.Reading.{certificate_fault, or_halt}
use Rattle.pg_talk.proofs.Openings.{certificate_cut, read_bad, whole_read}
use Rattle.pg_drawing.specs.Incoming.{Comes, HasCome, HoldsAlike, IsHeldAlike, IsReadAlike}
use Rattle.pg_drawing.specs.Incoming.{OpensAlike, SaysAlike}
use Rattle.pg_drawing.specs.declared.incoming.Incoming.{Incoming}

-- ---- while it comes

pub come_begun : (g : CertGathering)
    → HasGathered g []
    → HasCome (record { gathering = g; size = 0 }) []
come_begun g h = record {
  short = [];
  gathered = h;
  size = refl;
  fewer = omega arith;
  alike = λ more. refl;
}

come_none : (i : Incoming) → Comes i i []
come_none i text h = subst (HasCome i) (sym (append-nil text)) h

-- a piece more, gathered and then cut short
pub come_one : (before : Incoming) (mid next : CertGathering) (size : ℕ) (piece : Bytes)
    → ((text bytes : Bytes) → before.size ≡ size_of text
    → length piece ≡ length bytes
    → size ≡ size_of (text ++ bytes))
    → ((text : Bytes) → HasGathered before.gathering text → HasGathered mid (text ++ piece))
    → ((text : Bytes) → HasGathered mid text → HasGatheredShort next text)
    → Comes before (record { gathering = next; size = size }) piece
come_one before mid next size piece sizes takes cuts text h =
    let less = cuts (h.short ++ piece) (takes h.short h.gathered) in
    record {
      short = less.short;
      gathered = less.gathered;
      size = sizes text piece h.size refl;
      fewer =
          omega (arith, less.fewer, h.fewer, length-append h.short piece, length-append text piece);
      alike = alike_on (text ++ piece) (h.short ++ piece) less.short
          (alike_more text h.short piece h.alike) less.alike;
    }

pub come_more : (before after : Incoming) (piece : Bytes) → Comes before after piece
    → (first : Incoming) (bytes : Bytes) → Comes first before bytes
    → Comes first after (bytes ++ piece)
come_more before after piece one first bytes come text h =
    subst (HasCome after) (append_assoc text bytes piece) (one (text ++ bytes) (come text h))

-- ---- what was read

-- the text has this fault of form
abbrev HasFormFault : Result Cert (Fault × ℕ) → ℕ → ℕ → Type 0
HasFormFault r number line =
    IsErrAnd r (λ bad. (number ≡ certificate_fault_number bad.0) × (line ≡ bad.1))

pub read_large : (text : Bytes) (number : ℕ)
    → MAX_CERT_BYTES < length text
    → number ≡ certificate_fault_number form_faults.Size
    → IsReadAlike (Err (errors.Bad number 0)) text
read_large text number past is = subst (λ (r : Result Cert (Fault × ℕ)). HasFormFault r number 0)
    (sym (too_large text past)) (is, refl)

pub read_alike : (i : Incoming) (text : Bytes) (result : Result Cert FileError)
    → length text ≤ MAX_CERT_BYTES
    → (come : HasCome i text) → IsReadAs result (certificate come.short)
    → IsReadAlike result text
read_alike i text (Ok c) few come read =
    let same : short_result (certificate text) ≡ short_result (certificate come.short) =
    certificates_alike text come.short few come.fewer come.alike in
    let like = says_like text c (certificate text) refl (same ∙ ap short_result read) in
    record { whole = like.cert; says = like.says; same = like.same }
read_alike i text (Err (errors.Bad number line)) few come read =
    error_same (λ bad. (number ≡ certificate_fault_number bad.0) × (line ≡ bad.1))
    (certificate text) (certificate come.short)
    (certificates_alike text come.short few come.fewer come.alike) read
read_alike i text (Err errors.Memory) few come read = tt

-- ---- what a name holds

pub held_alike : (text : Bytes) (c : Cert) → SaysAlike text c → HoldsAlike (Some text) c
held_alike text c h = record {
  whole = h.whole;
  held = ap (or_halt (λ (fault : Fault × ℕ).
      certificate_fault (certificate_fault_number fault.0) fault.1)) h.says;
  same = h.same;
}

pub held_bad : (text : Bytes) (number line : ℕ)
    → IsReadAlike (Err (errors.Bad number line)) text
    → certificate_held (Some text) ≡ Err (certificate_fault number line)
held_bad text number line h =
    read_bad certificate_fault_number certificate_fault (certificate text) number line h

-- one byte more than the limit tells as much as the whole file
held_cut : (all : Bytes)
    → certificate_held (Some (take (MAX_CERT_BYTES + 1) all)) ≡ certificate_held (Some all)
held_cut all = rw (certificate_cut all) refl

whole_alike : (o : Option Bytes) (text : Bytes) (r : Result Cert Halt)
    → certificate_held o ≡ certificate_held (Some text)
    → IsHeldAlike (Some text) r
    → IsHeldAlike o r
whole_alike o text (Ok c) e h = record { whole = h.whole; held = e ∙ h.held; same = h.same }
whole_alike o text (Err (Refused refusal)) e h = e ∙ h
whole_alike o text (Err (Stopped stop)) e h = tt

-- what came is what the name holds
pub opens_alike : (h : Option Holding) (name : Bytes) (before after : Incoming)
    (r : Result Cert Halt)
    → HasCome before []
    → Pours h name MAX_CERT_BYTES (λ first now bytes. Comes first now bytes) before after
    → ((text : Bytes) → HasCome after text → IsHeldAlike (Some text) r)
    → OpensAlike h name r
opens_alike None name before after r begun pours read = tt
opens_alike (Some held) name before after r begun (text, whole, goes) read =
    let come : Comes before after text = goes before [] (come_none before) in
    whole_alike (held name) text r
    (whole_read MAX_CERT_BYTES (λ (text : Bytes). certificate_held (Some text)) held_cut
    (held name) text whole) (read text (come [] begun))
