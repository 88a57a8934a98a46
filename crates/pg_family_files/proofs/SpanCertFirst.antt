-- The fault that is told is the first.
use Rattle.std.proofs.Common.{◌≡◌, ℕ, ◌+◌, Bool, true, false, cond, ◌⊎◌, inl, inr, List, [], ◌∷◌}
use Rattle.std.proofs.Common.{◌++◌, length, refl, sym, ap, ◌∙◌, Option, Some, None, Result, Ok, Err}
use Rattle.std.proofs.Common.{arith}
use Rattle.std.specs.Prelude.{nat_le, nat_lt, not, is_none, is_err, codes}
use Rattle.pg_family_files.proofs.Common.{FinSet, nat_cmp, bytes_eq, ltb-true, and_then, each_of}
use Rattle.pg_family_files.proofs.Common.{least, onto, reading, Bytes, ascend_from, lines, number}
use Rattle.pg_family_files.proofs.Common.{parts, first_fault, is_least, has_one_slash, before_slash}
use Rattle.pg_family_files.proofs.Common.{after_slash, SpanBody}
use Rattle.pg_span.specs.declared.cert.SpanBody.TheVariants as bodies
use Rattle.pg_span.specs.declared.cert.SpanClaim.{SpanClaim}
use Rattle.pg_family_files.specs.SpanCertFile.{Draft, nothing, claimed, line_due, after, end_fault}
use Rattle.pg_family_files.specs.SpanCertFile.{ended, said, span_cert}
use Rattle.pg_family_files.specs.SpanCertFaults.{has_form, line_faults, IsFirstFault}
use Rattle.pg_family_files.specs.SpanCertLine.{TreeWords, ascending, body_from, body_of, cut_first}
use Rattle.pg_family_files.specs.SpanCertLine.{edges_of, first_edge, head_of, number_in, parts_of}
use Rattle.pg_family_files.specs.SpanCertLine.{small, trees_of}
use Rattle.pg_family_files.specs.declared.cert_draft.Due.{Due}
use Rattle.pg_family_files.specs.declared.cert_draft.Due.TheVariants as due
use Rattle.pg_family_files.specs.declared.cert_fault.Fault.{Fault}
use Rattle.pg_family_files.specs.declared.cert_fault.Fault.TheVariants as faults
use Rattle.pg_family_files.specs.declared.cert_line.Head.{Head}
use Rattle.pg_family_files.proofs.SpanCertWithin.{chosen, claim_of, done, some_done, body_done}
use Rattle.pg_family_files.proofs.SpanCertWithin.{draft_done, of_second, of_first, of_sets}

-- ---- what an answer with a fault was made of

abbrev fault_or : {A F : Type 0} → F → Result A F → F
fault_or f (Ok a) = f
fault_or f (Err g) = g

err_is : {A F : Type 0} (f g : F) → ◌≡◌ {A = Result A F} (Err f) (Err g) → f ≡ g
err_is f g e = ap (λ (r : Result _ _). fault_or f r) e

then_err : {A B F : Type 0} (r : Result A F) (f : A → Result B F) (g : F)
    → and_then r f ≡ Err g
    → (r ≡ Err g) ⊎ ((a : A) × (r ≡ Ok a) × (f a ≡ Err g))
then_err (Ok a) f g e = inr (a, refl, e)
then_err (Err h) f g e = inl (ap (λ (x : _). Err x) (err_is h g e))

abbrev set_fault : Fault → Result (FinSet nat_cmp) Fault
set_fault g = Err g

abbrev body_fault : Fault → Result SpanBody Fault
body_fault g = Err g

-- ---- numbers

small_err : (o : Option ℕ) (g : Fault) → small o ≡ Err g → g ≡ faults.Number
small_err None g e = sym (err_is faults.Number g e)
small_err (Some m) g e = elim (chosen (nat_le m 999) (done m) (Err faults.Number) (Err g) e) [
  | inl h ↦ absurd (cc h.1)
  | inr h ↦ sym (err_is faults.Number g h.1)
]

onto_err : (r : Result ℕ Fault) (rs : Result (List ℕ) Fault) (g : Fault)
    → ((h : Fault) → r ≡ Err h → h ≡ faults.Number)
    → ((h : Fault) → rs ≡ Err h → h ≡ faults.Number)
    → onto r rs ≡ Err g
    → g ≡ faults.Number
onto_err (Err h) rs g one others e = sym (err_is h g e) ∙ one h refl
onto_err (Ok a) (Err h) g one others e = sym (err_is h g e) ∙ others h refl
onto_err (Ok a) (Ok ns) g one others e = absurd cc

numbers_err : (ws : List Bytes) (g : Fault) → each_of number_in ws ≡ Err g → g ≡ faults.Number
numbers_err [] g e = absurd cc
numbers_err (w ∷ ws) g e = onto_err (number_in w) (each_of number_in ws) g
    (λ h. small_err (number w) h) (λ h. numbers_err ws h) e

ascending_err : (ns : List ℕ) (g : Fault) → ascending ns ≡ Err g → g ≡ faults.Number
ascending_err ns g e = elim (chosen (ascend_from 0 ns) _ (Err faults.Number) (set_fault g) e) [
  | inl h ↦ absurd (cc h.1)
  | inr h ↦ sym (err_is faults.Number g h.1)
]

edges_err : (ws : List Bytes) (g : Fault) → edges_of ws ≡ Err g → g ≡ faults.Number
edges_err ws g e = elim (then_err (each_of number_in ws) ascending g e) [
  | inl h ↦ numbers_err ws g h
  | inr h ↦ ascending_err h.0 g h.2
]

first_err : (word : Option Bytes) (g : Fault) → first_edge word ≡ Err g → g ≡ faults.Number
first_err None g e = absurd cc
first_err (Some word) g e = elim (then_err (number_in word) some_done g e) [
  | inl h ↦ small_err (number word) g h
  | inr h ↦ absurd (cc h.2)
]

second_err : (t : TreeWords) (first : Option ℕ) (a1 : FinSet nat_cmp) (g : Fault)
    → of_second t first a1 ≡ Err g
    → g ≡ faults.Number
second_err t first a1 g e = elim (then_err (edges_of (after_slash t.sets))
    (λ a2. body_done (bodies.Trees first a1 a2)) g e) [
      | inl h ↦ edges_err (after_slash t.sets) g h
      | inr h ↦ absurd (cc h.2)
    ]

both_err : (t : TreeWords) (first : Option ℕ) (g : Fault)
    → of_first t first ≡ Err g
    → g ≡ faults.Number
both_err t first g e = elim (then_err (edges_of (before_slash t.sets)) (of_second t first) g e) [
  | inl h ↦ edges_err (before_slash t.sets) g h
  | inr h ↦ second_err t first h.0 g h.2
]

sets_err : (t : TreeWords) (g : Fault) → of_sets t ≡ Err g → g ≡ faults.Number
sets_err t g e = elim (then_err (first_edge t.first) (of_first t) g e) [
  | inl h ↦ first_err t.first g h
  | inr h ↦ both_err t h.0 g h.2
]

parts_err : (ws : List Bytes) (g : Fault) → parts_of ws ≡ Err g → g ≡ faults.Number
parts_err ws g e = elim (then_err (each_of number_in ws) (λ ns. body_done (bodies.Parts ns)) g e) [
  | inl h ↦ numbers_err ws g h
  | inr h ↦ absurd (cc h.2)
]

-- ---- the least of a line

-- a form that isn't there, or a number
abbrev IsFaultBy : Bool → Fault → Type 0
IsFaultBy form g = ((form ≡ false) × (g ≡ faults.Form)) ⊎ ((form ≡ true) × (g ≡ faults.Number))

named : (b c x : Bool) → b ≡ true → cond b x c ≡ x
named b c x e = rw e refl

unnamed : (b c x : Bool) → b ≡ false → cond b x c ≡ c
unnamed b c x e = rw e refl

trees_formed : (t : TreeWords) (g : Fault) → trees_of t ≡ Err g → IsFaultBy (has_one_slash t.sets) g
trees_formed t g e = elim (chosen (has_one_slash t.sets) (of_sets t) (Err faults.Form) (Err g) e) [
  | inl h ↦ inr (h.0, sets_err t g h.1)
  | inr h ↦ inl (h.0, sym (err_is faults.Form g h.1))
]

moved : (a b : Bool) (g : Fault) → b ≡ a → IsFaultBy a g → IsFaultBy b g
moved a b g e (inl h) = inl (e ∙ h.0, h.1)
moved a b g e (inr h) = inr (e ∙ h.0, h.1)

formed : (ws : List Bytes) (g : Fault) → body_from ws ≡ Err g → IsFaultBy (has_form ws) g
formed [] g e = inl (refl, sym (err_is faults.Form g e))
formed (name ∷ ws) g e =
    let slash = has_one_slash (cut_first ws).sets in
    let parts = bytes_eq name (codes "parts") in
    elim (chosen (bytes_eq name (codes "trees")) (trees_of (cut_first ws)) _ (body_fault g) e) [
      | inl h ↦ moved slash _ g (named (bytes_eq name (codes "trees")) parts slash h.0)
          (trees_formed (cut_first ws) g h.1)
      | inr h ↦ moved parts _ g (unnamed (bytes_eq name (codes "trees")) parts slash h.0)
          (elim (chosen parts (parts_of ws) (Err faults.Form) (body_fault g) h.1) [
            | inl k ↦ inr (k.0, parts_err ws g k.1)
            | inr k ↦ inl (k.0, sym (err_is faults.Form g k.1))
          ])
    ]

by_form : (form : Bool) (r : Result SpanBody Fault) (g : Fault)
    → r ≡ Err g
    → IsFaultBy form g
    → least ((faults.Form, not form) ∷ (faults.Number, is_err r) ∷ []) ≡ Some g
by_form form r g e (inl h) = rw h.0 (ap (λ (x : Fault). Some x) (sym h.1))
by_form form r g e (inr h) = rw (h.0, e) (ap (λ (x : Fault). Some x) (sym h.1))

body_least : (line : Bytes) (g : Fault)
    → body_of line ≡ Err g
    → least ((faults.Form, not (has_form (parts 32 line))) ∷ (
      faults.Number,
      is_err (body_of line),
    ) ∷ []) ≡ Some g
unfolding body_of
body_least line g e =
    by_form (has_form (parts 32 line)) (body_from (parts 32 line)) g e (formed (parts 32 line) g e)

claim_least : (cs : List SpanClaim) (head : Option Head) (g : Fault)
    → claimed (record { due = due.Claim; claims = cs }) head ≡ Err g
    → least ((faults.Form, is_none head) ∷ (faults.Limit, nat_le 8 (length cs)) ∷ []) ≡ Some g
claim_least cs None g e = ap (λ (x : Fault). Some x) (err_is faults.Form g e)
claim_least cs (Some head) g e =
    elim (chosen (nat_le 8 (length cs)) (Err faults.Limit) (draft_done (record {
      due = due.Body head;
      claims = cs;
    })) (Err g) e) [
      | inl h ↦ rw h.0 (ap (λ (x : Fault). Some x) (err_is faults.Limit g h.1))
      | inr h ↦ absurd (cc h.1)
    ]

line_least : (d : Due) (cs : List SpanClaim) (line : Bytes) (g : Fault)
    → line_due d (record { due = d; claims = cs }) line ≡ Err g
    → least (line_faults d (length cs) line) ≡ Some g
line_least due.Header cs line g e =
    elim (chosen (bytes_eq line (codes "posgame-span-cert 1")) (draft_done (record {
      due = due.Claim;
      claims = cs;
    })) (Err faults.Header) (Err g) e) [
      | inl h ↦ absurd (cc h.1)
      | inr h ↦ rw h.0 (ap (λ (x : Fault). Some x) (err_is faults.Header g h.1))
    ]
line_least due.Claim cs line g e = claim_least cs (head_of line) g e
line_least (due.Body head) cs line g e = elim (then_err (body_of line) (λ b. draft_done (record {
  due = due.Claim;
  claims = cs ++ claim_of head b ∷ [];
})) g e) [
  | inl h ↦ body_least line g h
  | inr h ↦ absurd (cc h.2)
]

after_least : (d : Draft) (line : Bytes) (g : Fault)
    → after d line ≡ Err g
    → least (line_faults d.due (length d.claims) line) ≡ Some g
unfolding after
after_least d line g e = line_least d.due d.claims line g e

-- ---- the file

ended_err : (n : ℕ) (d : Draft) (o : Option Fault) (g : Fault) (m : ℕ)
    → ended n d o ≡ Err (g, m)
    → (o ≡ Some g) × (m ≡ n)
ended_err n d None g m e = absurd cc
ended_err n d (Some h) g m e =
    let p : ◌≡◌ {A = Fault × ℕ} (h, n) (g, m) = err_is (h, n) (g, m) e in
    (ap (λ (x : Fault × ℕ). Some x.0) p, sym (ap (λ (x : Fault × ℕ). x.1) p))

said_first : (text : Bytes) (g : Fault) (m : ℕ)
    → said (lines text) ≡ Err (g, m)
    → IsFirstFault text g m
said_first text g m e = elim (then_err (reading after 1 nothing (lines text))
    (λ d. ended (length (lines text) + 1) d (end_fault d)) (g, m) e) [
      | inl h ↦
          let t = first_fault after nothing 1 (lines text) g m h in
          let f = t.2 in
          inr (inl (record {
            before = f.before;
            line = f.line;
            behind = f.behind;
            draft = f.state;
            cut = f.cut;
            sound = f.sound 1;
            is_least = is_least _ g (after_least f.state f.line g f.here);
            place = omega (arith, t.1, f.number);
          }))
      | inr h ↦
          let last = ended_err (length (lines text) + 1) h.0 (end_fault h.0) g m h.2 in
          inr (inr (record { draft = h.0; sound = h.1; lacks = last.0; place = last.1 }))
    ]

pub first_told : (text : Bytes) (g : Fault) (m : ℕ)
    → span_cert text ≡ Err (g, m)
    → IsFirstFault text g m
unfolding span_cert
first_told text g m e = elim (chosen (nat_lt 4194304 (length text)) (Err (
  faults.Size,
  0,
)) (said (lines text)) (Err (g, m)) e) [
  | inl h ↦
      let p : ◌≡◌ {A = Fault × ℕ} (faults.Size, 0) (g, m) = err_is (faults.Size, 0) (g, m) h.1 in
      inl (record {
        large = ltb-true 4194304 (length text) h.0;
        fault_is = sym (ap (λ (x : Fault × ℕ). x.0) p);
        whole_file = sym (ap (λ (x : Fault × ℕ). x.1) p);
      })
  | inr h ↦ said_first text g m h.1
]
