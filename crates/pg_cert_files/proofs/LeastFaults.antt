-- The fault of a line is the first of its table that applies.
use Rattle.std.proofs.Common.{◌≡◌, ℕ, ◌+◌, true, false, ◌||◌, inl, inr, [], ◌∷◌, refl, sym, ap, ◌∙◌}
use Rattle.std.proofs.Common.{Option, Some, None, Result, Ok, Err}
use Rattle.std.specs.Prelude.{◌==◌, nat_lt, nat_le, not, is_none, is_err}
use Rattle.pg_cert_files.proofs.Common.{and_then, least, Bytes, number, Version, has_bar, Shape}
use Rattle.pg_cert_files.proofs.Common.{shape_of, node_of, formed, node_line, version_of, head_of}
use Rattle.pg_cert_files.proofs.Common.{count_of, Fault, Head, chosen}
use Rattle.pg_cert_files.specs.CertFile.{headed, claimed, claim_step, numbered, counted, behind}
use Rattle.pg_cert_files.specs.CertFile.{step_due, step}
use Rattle.pg_cert_files.specs.FirstFault.{counted_number, is_no_count, is_too_many}
use Rattle.pg_cert_files.specs.FirstFault.{has_wrong_number, line_faults}
use Rattle.pg_cert_lines.specs.declared.fault.Fault.TheVariants as faults
use Rattle.pg_cert.specs.declared.part.Part.TheVariants as parts
use Rattle.pg_cert_files.specs.declared.progress.Due.{Due}
use Rattle.pg_cert_files.specs.declared.progress.Due.TheVariants as due
use Rattle.pg_cert_files.specs.declared.progress.Progress.{Progress}
use Rattle.pg_cert_lines.proofs.OnlyNumbers.{OnlyNumber, only_node}

abbrev applies : Fault → Option Fault
applies fault = Some fault

pub same : {A : Type 0} (f g : Fault)
    → ◌≡◌ {A = Result A Fault} (Err f) (Err g)
    → applies f ≡ applies g
same f g e = let is : f ≡ g = cc in ap applies is

headed_first : (p : Progress) (version : Option Version) (fault : Fault)
    → headed p version ≡ Err fault
    → least ((faults.Header, is_none version) ∷ []) ≡ Some fault
headed_first p None fault e = same faults.Header fault e
headed_first p (Some version) fault e = absurd cc

claimed_first : (p : Progress) (head : Option Head) (fault : Fault)
    → claimed p head ≡ Err fault
    → least ((faults.Form, is_none head) ∷ (faults.Limit, nat_le 8 p.claims) ∷ []) ≡ Some fault
claimed_first p None fault e = same faults.Form fault e
claimed_first p (Some head) fault e = elim (chosen (nat_le 8 p.claims) (Err faults.Limit) (Ok (
  record p { due = due.Count head; claims = p.claims + 1 },
  None,
)) (Err fault) e) [
  | inl h ↦ rw h.0 (same faults.Limit fault h.1)
  | inr h ↦ absurd (cc h.1)
]

claim_first : (p : Progress) (line : Bytes) (fault : Fault)
    → claim_step p line ≡ Err fault
    → least (line_faults due.Claim p line) ≡ Some fault
claim_first p line fault e =
    elim (chosen (has_bar line) (Err faults.Place) (claimed p (head_of line)) (Err fault) e) [
      | inl h ↦ rw h.0 (same faults.Place fault h.1)
      | inr h ↦ rw h.0 (claimed_first p (head_of line) fault h.1)
    ]

numbered_first : (head : Head) (p : Progress) (n : Option ℕ) (fault : Fault)
    → numbered head p n ≡ Err fault
    → least ((faults.Number, is_no_count n) ∷ (faults.Limit, is_too_many p n) ∷ []) ≡ Some fault
numbered_first head p None fault e = same faults.Number fault e
numbered_first head p (Some n) fault e =
    elim (chosen (n == 0) (Err faults.Number) _ (Err fault) e) [
      | inl h ↦ rw h.0 (same faults.Number fault h.1)
      | inr h ↦ elim (chosen (nat_lt 100000 n || nat_lt 200000 (p.nodes + n)) (Err faults.Limit) _
          (Err fault) h.1) [
            | inl k ↦ rw (h.0, k.0) (same faults.Limit fault k.1)
            | inr k ↦ absurd (cc k.1)
          ]
    ]

counted_first : (head : Head) (p : Progress) (word : Option Bytes) (fault : Fault)
    → counted head p word ≡ Err fault
    → least ((faults.Form, is_none word) ∷ (faults.Number, is_no_count (counted_number word)) ∷ (
      faults.Limit,
      is_too_many p (counted_number word),
    ) ∷ []) ≡ Some fault
counted_first head p None fault e = same faults.Form fault e
counted_first head p (Some word) fault e = numbered_first head p (number word) fault e

pub node_first : {A : Type 0} (r : Result A Fault) (fault : Fault)
    → OnlyNumber r
    → r ≡ Err fault
    → least ((faults.Number, is_err r) ∷ []) ≡ Some fault
node_first (Ok a) fault only e = absurd (cc e)
node_first (Err found) fault only e = ap applies (sym only) ∙ same found fault e

pub formed_first : (shape : Option Shape) (fault : Fault)
    → formed shape ≡ Err fault
    → least ((faults.Form, is_none shape) ∷ (faults.Number, has_wrong_number shape) ∷ [])
    ≡ Some fault
formed_first None fault e = same faults.Form fault e
formed_first (Some shape) fault e = node_first (node_of shape) fault (only_node shape) e

node_line_first : (p : Progress) (others : ℕ) (line : Bytes) (fault : Fault)
    → node_line p.version line ≡ Err fault
    → least (line_faults (due.Node others) p line) ≡ Some fault
unfolding node_line
node_line_first p others line fault e = elim (chosen (not (has_bar line)) (Err faults.Place)
    (formed (shape_of p.version line)) (Err fault) e) [
      | inl h ↦ rw h.0 (same faults.Place fault h.1)
      | inr h ↦ rw h.0 (formed_first (shape_of p.version line) fault h.1)
    ]

pub then_err : {A B : Type 0} (r : Result A Fault) (next : A → Result B Fault) (fault : Fault)
    → ((a : A) → is_err (next a) ≡ false)
    → and_then r next ≡ Err fault
    → r ≡ Err fault
then_err (Ok a) next fault works e =
    let on : is_err (next a) ≡ true = ap is_err e in
    absurd (cc (works a))
then_err (Err found) next fault works e =
    let is : found ≡ fault = cc in
    ap (λ (k : Fault). Err k) is

due_first : (d : Due) (p : Progress) (line : Bytes) (fault : Fault)
    → step_due d p line ≡ Err fault
    → least (line_faults d p line) ≡ Some fault
due_first due.Header p line fault e = headed_first p (version_of line) fault e
due_first due.Claim p line fault e = claim_first p line fault e
due_first (due.Count head) p line fault e = counted_first head p (count_of line) fault e
due_first (due.Node others) p line fault e =
    node_line_first p others line fault (then_err (node_line p.version line) (λ node. Ok (
      record p { due = behind others },
      Some (parts.Node node),
    )) fault (λ node. refl) e)

pub step_first : (p : Progress) (line : Bytes) (fault : Fault)
    → step p line ≡ Err fault
    → least (line_faults p.due p line) ≡ Some fault
unfolding step
step_first p line fault e = due_first p.due p line fault e
