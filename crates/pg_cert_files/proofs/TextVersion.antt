-- The version of a text whose end is reached is that of its whole lines.
use Rattle.std.proofs.Common.{◌≡◌, ℕ, ◌+◌, ◌-◌, cond, ◌⊎◌, inl, inr, List, [], ◌∷◌, length, arith}
use Rattle.std.proofs.Common.{refl, sym, ap, subst, ◌∙◌, Option, Some, None, Result, Ok, Err}
use Rattle.std.specs.Prelude.{◌==◌, ◌||◌, nat_lt, nat_le}
use Rattle.pg_cert_files.proofs.Common.{cases_lt, Bytes, number, lines, Cert, Version, Part}
use Rattle.pg_cert_files.proofs.Common.{has_bar, version_of, head_of, count_of, node_line, Fault}
use Rattle.pg_cert_files.proofs.Common.{Head, ok_is, err_not, then_ok, chosen, done}
use Rattle.pg_cert.specs.declared.part.Part.TheVariants as parts
use Rattle.pg_cert_files.specs.CertFile.{Step, headed, claimed, numbered, counted, behind, step_due}
use Rattle.pg_cert_files.specs.CertFile.{step, Seen, taken, after, seen, end_fault, at_number}
use Rattle.pg_cert_files.specs.CertFile.{or_at_end, outcome, gathered, fault_of, text_version}
use Rattle.pg_cert_files.specs.CertFile.{text_parts, unless_faulty, certificate}
use Rattle.pg_cert_files.specs.Lines.{cut}
use Rattle.pg_cert_files.specs.Pieces.{IsFed}
use Rattle.pg_cert_files.specs.Reader.{told}
use Rattle.pg_cert_files.specs.declared.cert_state.CertReader.{CertReader}
use Rattle.pg_cert_lines.specs.declared.fault.Fault.TheVariants as faults
use Rattle.pg_cert_files.specs.declared.progress.Due.{Due}
use Rattle.pg_cert_files.specs.declared.progress.Due.TheVariants as due
use Rattle.pg_cert_files.specs.declared.progress.Progress.{Progress}
use Rattle.pg_cert_files.proofs.CertLimits.{IsSound, Next, IsSeen, sound_seen}
use Rattle.pg_cert_files.proofs.Stands.{at_feed, unfinished, after_none, after_some, at_none}
use Rattle.pg_cert_files.proofs.Growing.{told_feed}
use Rattle.pg_cert_files.proofs.WholeFile.{too_large, fits_file}
use Rattle.pg_cert_files.specs.declared.limits.TheConstants.{MAX_CERT_BYTES}

-- ---- a line behind the first keeps the version

abbrev Keeps : Progress → Next → Type 0
Keeps p next = next.0.version ≡ p.version

claim_keeps : (p : Progress) (head : Option Head) (next : Next)
    → claimed p head ≡ Ok next
    → Keeps p next
claim_keeps p None next e = absurd cc
claim_keeps p (Some head) next e =
    let made : Next = (record p { due = due.Count head; claims = p.claims + 1 }, None) in
    elim (chosen (nat_le 8 p.claims) (Err faults.Limit) (done made) (Ok next) e) [
      | inl h ↦ err_not faults.Limit next (Keeps p next) h.1
      | inr h ↦ subst (Keeps p) (ok_is made next h.1) refl
    ]

number_keeps : (head : Head) (p : Progress) (n : Option ℕ) (next : Next)
    → numbered head p n ≡ Ok next
    → Keeps p next
number_keeps head p None next e = absurd cc
number_keeps head p (Some n) next e =
    let made : Next = (
      record p { due = due.Node (n - 1); nodes = p.nodes + n },
      Some (parts.Claim head.turn head.side head.goal n),
    ) in
    elim (chosen (n == 0) (Err faults.Number)
    (cond (nat_lt 100000 n || nat_lt 200000 (p.nodes + n)) (Err faults.Limit) (done made))
    (Ok next) e) [
      | inl h ↦ err_not faults.Number next (Keeps p next) h.1
      | inr h ↦ elim (chosen (nat_lt 100000 n || nat_lt 200000 (p.nodes + n)) (Err faults.Limit)
          (done made) (Ok next) h.1) [
            | inl k ↦ err_not faults.Limit next (Keeps p next) k.1
            | inr k ↦ subst (Keeps p) (ok_is made next k.1) refl
          ]
    ]

count_keeps : (head : Head) (p : Progress) (word : Option Bytes) (next : Next)
    → counted head p word ≡ Ok next
    → Keeps p next
count_keeps head p None next e = absurd cc
count_keeps head p (Some word) next e = number_keeps head p (number word) next e

-- behind the first line a claim is due, and none has come
pub record IsFirst (d : Due) (p : Progress) (next : Next) : Type 0 where
  pub header : d ≡ due.Header
  pub claim : next.0.due ≡ due.Claim
  pub claims : next.0.claims ≡ p.claims

head_first : (p : Progress) (version : Option Version) (next : Next)
    → headed p version ≡ Ok next
    → IsFirst due.Header p next
head_first p None next e = absurd cc
head_first p (Some version) next e = subst (IsFirst due.Header p)
    (ok_is (record p { due = due.Claim; version = version }, None) next e) (record {
      header = refl;
      claim = refl;
      claims = refl;
    })

line_keeps : (d : Due) (p : Progress) (line : Bytes) (next : Next)
    → step_due d p line ≡ Ok next
    → Keeps p next ⊎ IsFirst d p next
line_keeps due.Header p line next e = inr (head_first p (version_of line) next e)
line_keeps due.Claim p line next e =
    elim (chosen (has_bar line) (Err faults.Place) (claimed p (head_of line)) (Ok next) e) [
      | inl h ↦ err_not faults.Place next _ h.1
      | inr h ↦ inl (claim_keeps p (head_of line) next h.1)
    ]
line_keeps (due.Count head) p line next e = inl (count_keeps head p (count_of line) next e)
line_keeps (due.Node others) p line next e =
    let q : Progress = record p { due = behind others } in
    let t = then_ok (node_line p.version line) (λ node. done (q, Some (parts.Node node))) next e in
    inl (subst (Keeps p) (ok_is (q, Some (parts.Node t.0)) next t.2) refl)

step_keeps : (p : Progress) (line : Bytes) (next : Next)
    → step p line ≡ Ok next
    → Keeps p next ⊎ IsFirst p.due p next
unfolding step
step_keeps p line next e = line_keeps p.due p line next e

-- ---- the last line

abbrev Outcome : Type 0
Outcome = Option (Fault × ℕ)

none_before : (s : Seen) (fault : Outcome)
    → s.fault ≡ fault
    → or_at_end s fault ≡ None
    → s.fault ≡ None
none_before s None is e = is
none_before s (Some fault) is e = absurd cc

-- a file doesn't end well behind its first line
ends_badly : (p : Progress) (n : ℕ)
    → p.due ≡ due.Claim
    → p.claims ≡ 0
    → at_number n (end_fault p p.due) ≡ None
    → ⊥
ends_badly p n claim none e =
    let bad : at_number n (end_fault p p.due) ≡ Some (faults.Form, n) = rw (claim, none) refl in
    absurd (cc (sym bad ∙ e))

none_begun : (d : Due) (s : Seen)
    → s.progress.due ≡ d
    → IsSeen s
    → d ≡ due.Header
    → s.progress.claims ≡ 0
none_begun due.Header s is sound e =
    (subst (λ (x : Due). IsSound x s.progress (gathered s.parts)) is sound).1
none_begun due.Claim s is sound e = absurd cc
none_begun (due.Count head) s is sound e = absurd cc
none_begun (due.Node others) s is sound e = absurd cc

taken_keeps : (s : Seen) (line : Bytes) (r : Step)
    → IsSeen s
    → step s.progress line ≡ r
    → outcome (taken s r) ≡ None
    → (taken s r).progress.version ≡ s.progress.version
taken_keeps s line (Err fault) sound is e = absurd cc
taken_keeps s line (Ok next) sound is e = elim (step_keeps s.progress line next is) [
  | inl kept ↦ kept
  | inr first ↦ absurd (ends_badly next.0 (s.count + 1 + 1) first.claim
      (first.claims ∙ none_begun s.progress.due s refl sound first.header) e)
]

-- ---- the text

-- where a text has no fault, neither have its whole lines, and its version is theirs
pub record AreSound (text : Bytes) : Type 0 where
  pub sound : (told text).fault ≡ None
  pub version : text_version text ≡ (told text).progress.version

not_after : (s : Seen) (line : Bytes) (fault : Outcome)
    → s.fault ≡ fault
    → outcome (after s line) ≡ None
    → s.fault ≡ None
not_after s line None is e = is
not_after s line (Some bad) is e =
    let same = ap outcome (after_some s line bad is) in
    none_before s s.fault refl (sym same ∙ e)

last_line : (text rest : Bytes) → (cut text).rest ≡ rest → fault_of text ≡ None → AreSound text
unfolding fault_of text_version
last_line text [] is e =
    let all = at_feed text is in
    record {
      sound = none_before (told text) (told text).fault refl (sym (ap outcome all) ∙ e);
      version = ap (λ (s : Seen). s.progress.version) all;
    }
last_line text (b ∷ bs) is e =
    let all : seen (lines text) ≡ after (told text) (cut text).rest =
    unfinished text (rw is (omega arith)) ∙ told_feed text in
    let good : outcome (after (told text) (cut text).rest) ≡ None = sym (ap outcome all) ∙ e in
    let none = not_after (told text) (cut text).rest (told text).fault refl good in
    let one = after_none (told text) (cut text).rest none in
    record {
      sound = none;
      version = ap (λ (s : Seen). s.progress.version) (all ∙ one)
          ∙ taken_keeps (told text) (cut text).rest (step (told text).progress (cut text).rest)
          (sound_seen (cut text).whole) refl (sym (ap outcome one) ∙ good);
    }

abbrev version_or : Version → Result Cert (Fault × ℕ) → Version
version_or version (Ok cert) = cert.version
version_or version (Err bad) = version

named : (fault : Outcome) (version : Version) (ps : List Part) (cert : Cert)
    → unless_faulty fault version ps ≡ Ok cert
    → (fault ≡ None) × (version ≡ cert.version)
named None version ps cert e = (refl, ap (version_or version) e)
named (Some bad) version ps cert e = absurd cc

-- the version that a reader has seen is that of the certificate that it was fed
pub version_is : (r : CertReader) (text : Bytes) (cert : Cert)
    → IsFed r text
    → certificate text ≡ Ok cert
    → r.lines.progress.version ≡ cert.version
version_is r text cert fed e = elim (cases_lt MAX_CERT_BYTES (length text)) [
  | inl past ↦ absurd (cc (sym (too_large text past) ∙ e))
  | inr within ↦
      let says = named (fault_of text) (text_version text) (text_parts text) cert
      (sym (fits_file text within) ∙ e) in
      let lines = last_line text (cut text).rest refl says.0 in
      let stands = fed.lines within in
      let progress : (told text).progress ≡ r.lines.progress =
      at_none r.lines.fault _ (sym stands.fault ∙ lines.sound) stands.progress in
      ap (λ (p : Progress). p.version) (sym progress) ∙ sym lines.version ∙ says.1
]
