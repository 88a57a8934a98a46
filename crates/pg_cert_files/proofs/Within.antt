-- A text that grows, within the limit of a file and past it.
use Rattle.std.proofs.Common.{◌≡◌, ℕ, ◌+◌, ◌-◌, ◌<◌, ◌≤◌, true, false, inl, inr, List, [], ◌++◌}
use Rattle.std.proofs.Common.{length, take, arith, refl, sym, ap, subst, ◌∙◌, Option, Some, None}
use Rattle.std.proofs.Common.{Result, Ok, Err}
use Rattle.std.specs.Prelude.{nat_lt, is_some, IfOk, IfSome, IfNone, IsErrAnd}
use Rattle.pg_cert_files.proofs.Common.{cases_lt, nat_tests, append-nil, take_all, length-append}
use Rattle.pg_cert_files.proofs.Common.{length-take-le, take-append-le, take-take, take-append-add}
use Rattle.pg_cert_files.proofs.Common.{Bytes, Part, BeginCert, FileError, number_of, Fault}
use Rattle.pg_text.specs.declared.error.FileError.TheVariants as outcomes
use Rattle.pg_cert_files.specs.CertFile.{listed, fault_of, file_fault, text_version, text_parts}
use Rattle.pg_cert_files.specs.CertFile.{gathered, closed, unless_faulty, certificate}
use Rattle.pg_cert_files.specs.Lines.{cut}
use Rattle.pg_cert_files.specs.Reader.{StandsFor, told, IsBad, IsLinesEnd}
use Rattle.pg_cert_files.specs.Pieces.{parts_told, size_of, IsFed, IsEnd}
use Rattle.pg_cert_lines.specs.declared.fault.Fault.TheVariants as faults
use Rattle.pg_cert_files.proofs.WholeFile.{too_large, fits_file, err_from, cert_of}
use Rattle.pg_cert_files.proofs.CertLimits.{read_within}
use Rattle.pg_cert_files.proofs.PartsBegin.{begin_seen, all_made}
use Rattle.pg_cert_files.specs.declared.cert_state.CertReader.{CertReader}
use Rattle.pg_cert_files.specs.declared.limits.TheConstants.{MAX_CERT_BYTES}

-- what of a text counts
pub size_within : (text : Bytes) → length text ≤ MAX_CERT_BYTES → size_of text ≡ length text
size_within text few =
    let t : nat_lt MAX_CERT_BYTES (length text) ≡ false = grind (arith, nat_tests) in
    rw t refl

pub size_past : (text : Bytes) → MAX_CERT_BYTES < length text → size_of text ≡ MAX_CERT_BYTES + 1
size_past text more =
    let t : nat_lt MAX_CERT_BYTES (length text) ≡ true = grind (arith, nat_tests) in
    rw t refl

-- a size within the limit is the text's length
pub is_within : (text : Bytes) (size : ℕ)
    → size ≡ size_of text
    → size ≤ MAX_CERT_BYTES
    → (length text ≤ MAX_CERT_BYTES) × (size ≡ length text)
is_within text size e few = elim (cases_lt MAX_CERT_BYTES (length text)) [
  | inl past ↦
      let more : size ≡ MAX_CERT_BYTES + 1 = e ∙ size_past text past in
      absurd (omega (arith, more))
  | inr within ↦ (within, e ∙ size_within text within)
]

pub is_past : (text : Bytes) (size : ℕ)
    → size ≡ size_of text
    → MAX_CERT_BYTES < size
    → MAX_CERT_BYTES < length text
is_past text size e more = elim (cases_lt MAX_CERT_BYTES (length text)) [
  | inl past ↦ past
  | inr within ↦
      let same : size ≡ length text = e ∙ size_within text within in
      absurd (omega (arith, same))
]

pub told_within : (text : Bytes)
    → length text ≤ MAX_CERT_BYTES
    → parts_told text ≡ (told text).parts
told_within text few = ap (λ (t : Bytes). (told t).parts) (take_all MAX_CERT_BYTES text few)

grown : (text piece : Bytes) (k : ℕ)
    → k ≤ length piece
    → length (text ++ take k piece) ≡ length text + k
grown text piece k few =
    length-append text (take k piece) ∙ ap (λ n. length text + n) (length-take-le k piece few)

-- ---- within the limit

pub parts_within : (r : CertReader) (text piece : Bytes) (used : ℕ) (part : Option Part)
    → IsFed r text
    → r.size + length piece ≤ MAX_CERT_BYTES
    → used ≤ length piece
    → (StandsFor r.lines text
    → (told (text ++ take used piece)).parts ≡ (told text).parts ++ listed part)
    → parts_told (text ++ take used piece) ≡ parts_told text ++ listed part
parts_within r text piece used part fed few all parts =
    let within = is_within text r.size fed.size (omega arith) in
    let len = grown text piece used all in
    told_within (text ++ take used piece) (omega (arith, len, within.1))
    ∙ parts (fed.lines within.0)
    ∙ ap (λ (ps : List Part). ps ++ listed part) (sym (told_within text within.0))

pub parts_before : (r : CertReader) (text piece : Bytes) (k : ℕ)
    → IsFed r text
    → r.size + length piece ≤ MAX_CERT_BYTES
    → k ≤ length piece
    → (StandsFor r.lines text → (told (text ++ take k piece)).parts ≡ (told text).parts)
    → parts_told (text ++ take k piece) ≡ parts_told text
parts_before r text piece k fed few all parts =
    let within = is_within text r.size fed.size (omega arith) in
    let len = grown text piece k all in
    told_within (text ++ take k piece) (omega (arith, len, within.1))
    ∙ parts (fed.lines within.0)
    ∙ sym (told_within text within.0)

-- ---- past the limit

-- all of the piece
whole_piece : (text piece : Bytes) → text ++ take (length piece) piece ≡ text ++ piece
whole_piece text piece = ap (λ (t : Bytes). text ++ t) (take_all (length piece) piece (omega arith))

-- the limit lies in the piece
pub fed_past : (r n : CertReader) (text piece : Bytes)
    → IsFed r text
    → r.size ≤ MAX_CERT_BYTES
    → MAX_CERT_BYTES - r.size < length piece
    → n.size ≡ MAX_CERT_BYTES + 1
    → IsFed n (text ++ take (length piece) piece)
fed_past r n text piece fed few more size =
    let within = is_within text r.size fed.size few in
    let len = grown text piece (length piece) (omega arith) in
    let past : MAX_CERT_BYTES < length (text ++ take (length piece) piece) =
    omega (arith, len, within.1) in
    record {
      size = size ∙ sym (size_past (text ++ take (length piece) piece) past);
      lines = λ still. absurd (omega (arith, past, still));
    }

up_to_limit : (text piece : Bytes) (room : ℕ)
    → length text + room ≡ MAX_CERT_BYTES
    → room ≤ length piece
    → take MAX_CERT_BYTES (text ++ piece) ≡ take MAX_CERT_BYTES (text ++ take room piece)
up_to_limit text piece room e few =
    let len = grown text piece room few in
    ap (λ n. take n (text ++ piece)) (sym e)
    ∙ take-append-add text piece room
    ∙ sym (take_all MAX_CERT_BYTES (text ++ take room piece) (omega (arith, len)))

pub parts_past : (r : CertReader) (text piece : Bytes) (ps : List Part)
    → IsFed r text
    → r.size ≤ MAX_CERT_BYTES
    → MAX_CERT_BYTES - r.size < length piece
    → parts_told (text ++ take (MAX_CERT_BYTES - r.size) piece) ≡ parts_told text ++ ps
    → parts_told (text ++ take (length piece) piece) ≡ parts_told text ++ ps
parts_past r text piece ps fed few more parts =
    let within = is_within text r.size fed.size few in
    let cut =
    up_to_limit text piece (MAX_CERT_BYTES - r.size) (omega (arith, within.1)) (omega arith) in
    ap (λ (t : Bytes). parts_told t) (whole_piece text piece)
    ∙ ap (λ (t : Bytes). (told t).parts) cut
    ∙ parts

pub parts_over : (r : CertReader) (text piece : Bytes)
    → IsFed r text
    → MAX_CERT_BYTES < r.size
    → parts_told (text ++ take (length piece) piece) ≡ parts_told text ++ []
parts_over r text piece fed more =
    let past = is_past text r.size fed.size more in
    ap (λ (t : Bytes). (told t).parts)
    (take-append-le MAX_CERT_BYTES text (take (length piece) piece) (omega (arith, past)))
    ∙ sym (append-nil (parts_told text))

-- ---- the end

pub fault_within : (text : Bytes) → length text ≤ MAX_CERT_BYTES → file_fault text ≡ fault_of text
fault_within text few =
    let t : nat_lt MAX_CERT_BYTES (length text) ≡ false = grind (arith, nat_tests) in
    rw t refl

pub fault_past : (text : Bytes)
    → MAX_CERT_BYTES < length text
    → file_fault text ≡ Some (faults.Size, 0)
fault_past text more =
    let t : nat_lt MAX_CERT_BYTES (length text) ≡ true = grind (arith, nat_tests) in
    rw t refl

-- ---- what the pieces give

pub last_within : (r : CertReader) (piece : Bytes) (used : ℕ) (part : Option Part)
    → r.size + length piece ≤ MAX_CERT_BYTES
    → used ≤ length piece
    → IfSome part (λ _. (0 < used)
    × ((text : Bytes) → StandsFor r.lines text
    → (told (text ++ take (used - 1) piece)).parts ≡ (told text).parts))
    → IfSome part (λ _. (0 < used)
    × ((text : Bytes) → IsFed r text
    → parts_told (text ++ take (used - 1) piece) ≡ parts_told text))
last_within r piece used None few all last = tt
last_within r piece used (Some part) few all last = (
  last.0,
  λ text fed. parts_before r text piece (used - 1) fed few (omega (arith, all)) (last.1 text),
)

-- the bytes used of a piece's front are those of the piece
pub front_taken : (piece : Bytes) (room k : ℕ)
    → room ≤ length piece
    → k ≤ length (take room piece)
    → take k (take room piece) ≡ take k piece
front_taken piece room k few all =
    let len : length (take room piece) ≡ room = length-take-le room piece few in
    take-take k room piece (omega (arith, all, len))

pub last_taken : (r : CertReader) (piece : Bytes) (room used : ℕ) (part : Option Part)
    → room ≤ length piece
    → used ≤ length (take room piece)
    → IfSome part
    (λ _. (0 < used)
    × ((text : Bytes) → IsFed r text
    → parts_told (text ++ take (used - 1) (take room piece)) ≡ parts_told text))
    → IfSome part (λ _. (0 < used)
    × ((text : Bytes) → IsFed r text
    → parts_told (text ++ take (used - 1) piece) ≡ parts_told text))
last_taken r piece room used None few all h = tt
last_taken r piece room used (Some part) few all h =
    let same = front_taken piece room (used - 1) few (omega (arith, all)) in (
      h.0,
      λ text fed. subst (λ (t : Bytes). parts_told (text ++ t) ≡ parts_told text) same
          (h.1 text fed),
    )

-- no part came before the limit
pub none_given : (text piece : Bytes) (ps : List Part) (room used : ℕ) (part : Option Part)
    → is_some part ≡ false
    → IfNone part (used ≡ length (take room piece))
    → parts_told (text ++ take used (take room piece)) ≡ ps ++ listed part
    → parts_told (text ++ take room piece) ≡ ps ++ []
none_given text piece ps room used None none all h =
    subst (λ (t : Bytes). parts_told (text ++ t) ≡ ps ++ [])
    (ap (λ k. take k (take room piece)) all
    ∙ take_all (length (take room piece)) (take room piece) (omega arith)) h
none_given text piece ps room used (Some part) none all h = absurd cc

-- ---- the parts given begin a certificate, and are all of it at a good end

pub begins : (text piece : Bytes) (used : ℕ) (part : Option Part)
    → parts_told (text ++ take used piece) ≡ parts_told text ++ listed part
    → BeginCert (parts_told text ++ listed part)
begins text piece used part e =
    subst BeginCert e (begin_seen (cut (take MAX_CERT_BYTES (text ++ take used piece))).whole)

cert_read : (text : Bytes)
    → file_fault text ≡ None
    → certificate text ≡ cert_of (text_version text) (closed (gathered (text_parts text)))
cert_read text none = elim (cases_lt MAX_CERT_BYTES (length text)) [
  | inl past ↦ absurd (cc (sym (fault_past text past) ∙ none))
  | inr within ↦ fits_file text within
      ∙ ap (λ (o : Option (Fault × ℕ)). unless_faulty o (text_version text) (text_parts text))
      (sym (fault_within text within) ∙ none)
]

none_of : (text : Bytes) → file_fault text ≡ None → fault_of text ≡ None
none_of text none = elim (cases_lt MAX_CERT_BYTES (length text)) [
  | inl past ↦ absurd (cc (sym (fault_past text past) ∙ none))
  | inr within ↦ sym (fault_within text within) ∙ none
]

bad_read : (text : Bytes) (number line : ℕ)
    → IsBad number line (file_fault text)
    → IsErrAnd (certificate text) (λ bad. (number ≡ number_of bad.0) × (line ≡ bad.1))
bad_read text number line bad = elim (cases_lt MAX_CERT_BYTES (length text)) [
  | inl past ↦
      let found : IsBad number line (Some (faults.Size, 0)) =
      subst (IsBad number line) (fault_past text past) bad in
      let same = too_large text past in
      rw same found
  | inr within ↦
      let found : IsBad number line (fault_of text) =
      subst (IsBad number line) (fault_within text within) bad in
      let same = fits_file text within in
      rw same (err_from (fault_of text) (text_version text) (text_parts text) number line found)
]

-- what callers get at the end
pub end_is : (text : Bytes) (result : Result (Option Part) FileError)
    → IsLinesEnd result (file_fault text) (text_parts text) (parts_told text)
    → IsEnd result text
end_is text (Ok last) h =
    let read = cert_read text h.0 in
    record {
      cert = record { version = text_version text; claims = closed (gathered (text_parts text)) };
      read = read;
      limits = read_within text (record {
        version = text_version text;
        claims = closed (gathered (text_parts text));
      }) read;
      parts = sym h.1 ∙ all_made text (none_of text h.0);
    }
end_is text (Err outcomes.Memory) h = tt
end_is text (Err (outcomes.Bad number line)) h = bad_read text number line h

pub end_within : (r : CertReader) (result : Result (Option Part) FileError)
    → r.size ≤ MAX_CERT_BYTES
    → ((text : Bytes) → StandsFor r.lines text
    → IsLinesEnd result (fault_of text) (text_parts text) (told text).parts)
    → (text : Bytes) → IsFed r text
    → IsEnd result text
end_within r result few ends text fed =
    let within = is_within text r.size fed.size few in
    end_is text result
    (subst (λ (o : Option (Fault × ℕ)). IsLinesEnd result o (text_parts text) (parts_told text))
    (sym (fault_within text within.0))
    (subst (λ (ps : List Part). IsLinesEnd result (fault_of text) (text_parts text) ps)
    (sym (told_within text within.0)) (ends text (fed.lines within.0))))

pub end_past : (r : CertReader) (error : FileError)
    → MAX_CERT_BYTES < r.size
    → error ≡ outcomes.Bad 1 0
    → (text : Bytes) → IsFed r text
    → IsEnd (Err error) text
end_past r error more is text fed =
    let bad : IsLinesEnd (Err (outcomes.Bad 1 0)) (file_fault text) (text_parts text)
    (parts_told text) = rw (fault_past text (is_past text r.size fed.size more)) (refl, refl) in
    end_is text (Err error) (subst (λ (e : FileError).
    IsLinesEnd (Err e) (file_fault text) (text_parts text) (parts_told text)) (sym is) bad)

-- the last part too
pub last_begins : (r : CertReader) (result : Result (Option Part) FileError)
    → ((text : Bytes) → IsFed r text → IsEnd result text)
    → IfOk result
    (λ last. (text : Bytes) → IsFed r text → BeginCert (parts_told text ++ listed last))
last_begins r (Ok last) h = λ text fed.
    let e = h text fed in
    record {
      cert = e.cert;
      limits = e.limits;
      rest = [];
      parts = append-nil (parts_told text ++ listed last) ∙ e.parts;
    }
last_begins r (Err error) h = tt
