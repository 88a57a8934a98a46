-- The first fault of a file.
use Rattle.std.proofs.Common.{◌≡◌, ℕ, suc, ◌+◌, ◌⊎◌, inl, inr, List, [], ◌∷◌, ◌++◌, length, arith}
use Rattle.std.proofs.Common.{refl, sym, ap, ◌∙◌, Option, Some, None, Result, Ok, Err}
use Rattle.std.specs.Prelude.{fold, nat_lt}
use Rattle.pg_cert_files.proofs.Common.{ltb-true, Bytes, lines, Version, Part, Cert, Fault, chosen}
use Rattle.pg_cert_files.specs.CertFile.{Step, Seen, nothing, taken, after, seen, step, end_fault}
use Rattle.pg_cert_files.specs.CertFile.{at_number, or_at_end, fault_of, text_version, text_parts}
use Rattle.pg_cert_files.specs.CertFile.{unless_faulty, certificate}
use Rattle.pg_cert_files.specs.FirstFault.{IsFaultOfLine, IsFaultOfEnd, IsFirstFault}
use Rattle.pg_cert_lines.specs.declared.fault.Fault.TheVariants as faults
use Rattle.pg_cert_files.proofs.Stands.{after_none, after_some}
use Rattle.pg_cert_files.proofs.LeastFaults.{step_first}

abbrev Bad : Type 0
Bad = Fault × ℕ

abbrev bad : Fault → ℕ → Bad
bad fault n = (fault, n)

abbrev failed : Bad → Result Cert Bad
failed b = Err b

abbrev bad_or : Bad → Result Cert Bad → Bad
bad_or b (Ok c) = b
bad_or b (Err other) = other

abbrev some_or : Bad → Option Bad → Bad
some_or b None = b
some_or b (Some other) = other

-- the lines from a state without a fault: where they stop
pub record Stops (s : Seen) (ls : List Bytes) (fault : Fault) (number : ℕ) : Type 0 where
  pub before : List Bytes
  pub line : Bytes
  pub behind : List Bytes
  pub cut : ls ≡ before ++ line ∷ behind
  pub place : number ≡ s.count + (length before + 1)
  pub sound : (fold after s before).fault ≡ None
  pub here : step (fold after s before).progress line ≡ Err fault

stays : (ls : List Bytes) (s : Seen) (b : Bad) → s.fault ≡ Some b → fold after s ls ≡ s
stays [] s b e = refl
stays (line ∷ ls) s b e =
    let same = after_some s line b e in
    ap (λ (t : Seen). fold after t ls) same ∙ stays ls s b e

number_is : (f g : Fault) (n m : ℕ) → Some (bad f n) ≡ Some (bad g m) → (f ≡ g) × (n ≡ m)
number_is f g n m e =
    let p : bad f n ≡ bad g m = ap (some_or (bad f n)) e in
    (ap (λ (x : Bad). x.0) p, ap (λ (x : Bad). x.1) p)

stops_at : (s : Seen) (line : Bytes) (ls : List Bytes) (fault : Fault) (number : ℕ) (r : Step)
    → s.fault ≡ None
    → step s.progress line ≡ r
    → ((t : Seen) → t.fault ≡ None
    → (fold after t ls).fault ≡ Some (fault, number)
    → Stops t ls fault number)
    → (fold after (taken s r) ls).fault ≡ Some (fault, number)
    → Stops s (line ∷ ls) fault number
stops_at s line ls fault number (Ok next) none is others e =
    let t = taken s (Ok next) in
    let h = others t refl e in
    let first : after s line ≡ t = after_none s line none ∙ ap (taken s) is in
    record {
      before = line ∷ h.before;
      line = h.line;
      behind = h.behind;
      cut = ap (λ (x : List Bytes). line ∷ x) h.cut;
      place = omega (arith, h.place);
      sound = ap (λ (x : Seen). (fold after x h.before).fault) first ∙ h.sound;
      here = ap (λ (x : Seen). step (fold after x h.before).progress h.line) first ∙ h.here;
    }
stops_at s line ls fault number (Err found) none is others e =
    let t = taken s (Err found) in
    let same : fold after t ls ≡ t = stays ls t (found, s.count + 1) refl in
    let both =
    number_is found fault (s.count + 1) number (sym (ap (λ (x : Seen). x.fault) same) ∙ e) in
    record {
      before = [];
      line = line;
      behind = ls;
      cut = refl;
      place = omega (arith, both.1);
      sound = none;
      here = is ∙ ap (λ (f : Fault). Err f) both.0;
    }

stops : (ls : List Bytes) (s : Seen) (fault : Fault) (number : ℕ)
    → s.fault ≡ None
    → (fold after s ls).fault ≡ Some (fault, number)
    → Stops s ls fault number
stops [] s fault number none e = absurd (cc (sym none ∙ e))
stops (line ∷ ls) s fault number none e = stops_at s line ls fault number
    (step s.progress line) none refl (λ t free f. stops ls t fault number free f)
    (ap (λ (x : Seen). (fold after x ls).fault) (sym (after_none s line none)) ∙ e)

counts_at : (s : Seen) (ls : List Bytes) (r : Step)
    → ((t : Seen) → t.fault ≡ None
    → (fold after t ls).fault ≡ None
    → (fold after t ls).count ≡ t.count + length ls)
    → (fold after (taken s r) ls).fault ≡ None
    → (fold after (taken s r) ls).count ≡ s.count + suc (length ls)
counts_at s ls (Ok next) others e = omega (arith, others (taken s (Ok next)) refl e)
counts_at s ls (Err found) others e =
    let t = taken s (Err found) in
    let same : fold after t ls ≡ t = stays ls t (found, s.count + 1) refl in
    absurd (cc (sym (ap (λ (x : Seen). x.fault) same) ∙ e))

counts : (ls : List Bytes) (s : Seen)
    → s.fault ≡ None
    → (fold after s ls).fault ≡ None
    → (fold after s ls).count ≡ s.count + length ls
counts [] s none e = omega arith
counts (line ∷ ls) s none e =
    let first = after_none s line none in
    ap (λ (x : Seen). (fold after x ls).count) first
    ∙ counts_at s ls (step s.progress line) (λ t free f. counts ls t free f)
    (ap (λ (x : Seen). (fold after x ls).fault) (sym first) ∙ e)

line_is : (text : Bytes) (fault : Fault) (number : ℕ)
    → (seen (lines text)).fault ≡ Some (fault, number)
    → IsFaultOfLine text fault number
unfolding seen
line_is text fault number e =
    let h = stops (lines text) nothing fault number refl e in
    record {
      before = h.before;
      line = h.line;
      behind = h.behind;
      cut = h.cut;
      place = omega (arith, h.place);
      sound = h.sound;
      here = h.here;
      is_least = step_first (seen h.before).progress h.line fault h.here;
    }

numbered_is : (n m : ℕ) (o : Option Fault) (fault : Fault)
    → at_number n o ≡ Some (fault, m)
    → (o ≡ Some fault) × (m ≡ n)
numbered_is n m None fault e = absurd cc
numbered_is n m (Some found) fault e =
    let both = number_is found fault n m e in
    (ap (λ (f : Fault). Some f) both.0, sym both.1)

end_is : (text : Bytes) (fault : Fault) (number : ℕ)
    → (seen (lines text)).fault ≡ None
    → at_number ((seen (lines text)).count + 1)
    (end_fault (seen (lines text)).progress (seen (lines text)).progress.due) ≡ Some (fault, number)
    → IsFaultOfEnd text fault number
unfolding seen
end_is text fault number none e =
    let both = numbered_is ((seen (lines text)).count + 1) number
    (end_fault (seen (lines text)).progress (seen (lines text)).progress.due) fault e in
    record {
      place = omega (arith, both.1, counts (lines text) nothing refl none);
      sound = none;
      here = both.0;
    }

either_is : (text : Bytes) (o : Option Bad) (fault : Fault) (number : ℕ)
    → (seen (lines text)).fault ≡ o
    → or_at_end (seen (lines text)) o ≡ Some (fault, number)
    → IsFaultOfLine text fault number ⊎ IsFaultOfEnd text fault number
either_is text None fault number is e = inr (end_is text fault number is e)
either_is text (Some b) fault number is e = inl (line_is text fault number (is ∙ e))

fault_is : (text : Bytes) (fault : Fault) (number : ℕ)
    → fault_of text ≡ Some (fault, number)
    → IsFaultOfLine text fault number ⊎ IsFaultOfEnd text fault number
unfolding fault_of
fault_is text fault number e = either_is text (seen (lines text)).fault fault number refl e

bad_is : (o : Option Bad) (version : Version) (ps : List Part) (b : Bad)
    → unless_faulty o version ps ≡ failed b
    → o ≡ Some b
bad_is None version ps b e = absurd cc
bad_is (Some found) version ps b e = ap (λ (x : Bad). Some x) (ap (bad_or found) e)

-- a fault that reading gives is the first
pub first_fault : (text : Bytes) (fault : Fault) (number : ℕ)
    → certificate text ≡ Err (fault, number)
    → IsFirstFault text fault number
unfolding certificate
first_fault text fault number e = elim (chosen (nat_lt 268435456 (length text)) (failed (
  faults.Size,
  0,
)) (unless_faulty (fault_of text) (text_version text) (text_parts text))
    (failed (fault, number)) e) [
      | inl h ↦
          let p : bad faults.Size 0 ≡ bad fault number = ap (bad_or (bad faults.Size 0)) h.1 in
          inl (record {
            large = ltb-true 268435456 (length text) h.0;
            fault_is = sym (ap (λ (x : Bad). x.0) p);
            whole_file = sym (ap (λ (x : Bad). x.1) p);
          })
      | inr h ↦ inr (fault_is text fault number
          (bad_is (fault_of text) (text_version text) (text_parts text) (fault, number) h.1))
    ]
