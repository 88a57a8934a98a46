-- The fault that is told is the first.
use Rattle.std.proofs.Common.{◌≡◌, ◌∙◌, ℕ, Bool, true, false, inl, inr, List, [], ◌∷◌, ◌++◌}
use Rattle.std.proofs.Common.{length, refl, sym, ap, subst, Some, Result, Ok, Err, arith}
use Rattle.std.specs.Prelude.{nat_lt, codes}
use Rattle.std.proofs.lemmas.Slice.Eq.{bytes_eq-Decides}
use Rattle.pg_plan.proofs.Common.{Bytes, and_then, bytes_eq, false≢true, first_fault, is_least}
use Rattle.pg_plan.proofs.Common.{least, lines, ltb-true, parts, reading, unless_err}
use Rattle.pg_plan.proofs.WordFaults.{IsOfWords, chosen, err_is, words_fault}
use Rattle.pg_plan.specs.PlanFile.{after, place_faults, place_from, place_of, plan_of, said}
use Rattle.pg_plan.specs.PlanFile.{is_full, with_one}
use Rattle.pg_plan.specs.Faults.{IsFirstFault, is_early, is_form, is_number, line_faults}
use Rattle.pg_plan.specs.declared.fault.Fault.{Fault}
use Rattle.pg_plan.specs.declared.fault.Fault.TheVariants as faults
use Rattle.pg_plan.specs.declared.place.Place.{Place}

-- ---- the least of a line

-- the table by what the words say
abbrev table : List Place → Result Place Fault → List (Fault × Bool)
table places r = (faults.Form, is_form r) ∷ (faults.Number, is_number r)
    ∷ (faults.Order, is_early (length places) r) ∷ (faults.Limit, is_full places) ∷ []

of_words : (places : List Place) (g f : Fault)
    → IsOfWords g
    → g ≡ f
    → least (table places (Err g)) ≡ Some f
of_words places g f (inl is) same =
    subst (λ (h : Fault). least (table places (Err h)) ≡ Some f) is
    (ap (λ (h : Fault). Some h) (is ∙ same))
of_words places g f (inr is) same =
    subst (λ (h : Fault). least (table places (Err h)) ≡ Some f) is
    (ap (λ (h : Fault). Some h) (is ∙ same))

result_least : (places : List Place) (r : Result Place Fault) (f : Fault)
    → ((g : Fault) → r ≡ Err g → IsOfWords g)
    → and_then r (with_one places) ≡ Err f
    → least (table places r) ≡ Some f
result_least places (Ok p) f words e =
    unless_err (least (place_faults places p)) f (places ++ p ∷ []) e
result_least places (Err g) f words e =
    of_words places g f (words g refl) (err_is {A = List Place} g f e)

line_least : (places : List Place) (line : Bytes) (f : Fault)
    → after places line ≡ Err f
    → least (line_faults places (parts 32 line)) ≡ Some f
unfolding after place_of
line_least places line f e = result_least places (place_from (parts 32 line)) f
    (λ g h. words_fault (parts 32 line) g h) e

-- ---- the file

is_header : (first : Bytes)
    → bytes_eq first (codes "posgame-plan 1") ≡ true
    → first ≡ codes "posgame-plan 1"
is_header first e = (bytes_eq-Decides first (codes "posgame-plan 1")).0 e

not_header : (first : Bytes)
    → bytes_eq first (codes "posgame-plan 1") ≡ false
    → first ≡ codes "posgame-plan 1"
    → ⊥
not_header first off same =
    false≢true (sym off ∙ (bytes_eq-Decides first (codes "posgame-plan 1")).1 same)

abbrev line_or : Bytes → List Bytes → Bytes
line_or d [] = d
line_or d (x ∷ xs) = x

module _ (text : Bytes) (f : Fault) (m : ℕ) where
  headless : ((behind : List Bytes) → lines text ≡ codes "posgame-plan 1" ∷ behind → ⊥)
      → ◌≡◌ {A = Result (List Place) (Fault × ℕ)} (Err (faults.Header, 1)) (Err (f, m))
      → IsFirstFault text f m
  headless other e =
      let p : ◌≡◌ {A = Fault × ℕ} (faults.Header, 1) (f, m) = err_is (faults.Header, 1) (f, m) e in
      inr (inl (record {
        other = other;
        fault_is = sym (ap (λ (x : Fault × ℕ). x.0) p);
        place = sym (ap (λ (x : Fault × ℕ). x.1) p);
      }))

  said_first : (ls : List Bytes)
      → lines text ≡ ls
      → said ls ≡ Err (f, m)
      → IsFirstFault text f m
  said_first [] is e = headless (λ behind h.
      let long = ap (λ (xs : List Bytes). length xs) (sym is ∙ h) in absurd (omega (arith, long))) e
  said_first (first ∷ others) is e = elim (chosen (bytes_eq first (codes "posgame-plan 1"))
      (reading after 2 [] others) (Err (faults.Header, 1)) (Err (f, m)) e) [
        | inl h ↦
            let t = first_fault after [] 2 others f m h.1 in
            let bad = t.2 in
            let cut : lines text
            ≡ codes "posgame-plan 1" ∷ (bad.before ++ bad.line ∷ bad.behind) =
            is ∙ (λ i. is_header first h.0 i ∷ bad.cut i) in
            inr (inr (record {
              before = bad.before;
              line = bad.line;
              behind = bad.behind;
              places = bad.state;
              cut = cut;
              sound = bad.sound 2;
              is_least = is_least _ f (line_least bad.state bad.line f bad.here);
              place = omega (arith, t.1, bad.number);
            }))
        | inr h ↦ headless (λ behind k.
            not_header first h.0 (ap (λ (xs : List Bytes). line_or first xs) (sym is ∙ k))) h.1
      ]

  pub first_told : plan_of text ≡ Err (f, m) → IsFirstFault text f m
  unfolding plan_of
  first_told e = elim (chosen (nat_lt 16777216 (length text)) (Err (
    faults.Size,
    0,
  )) (said (lines text)) (Err (f, m)) e) [
    | inl h ↦
        let p : ◌≡◌ {A = Fault × ℕ} (faults.Size, 0) (f, m) = err_is (faults.Size, 0) (f, m) h.1 in
        inl (record {
          large = ltb-true 16777216 (length text) h.0;
          fault_is = sym (ap (λ (x : Fault × ℕ). x.0) p);
          whole_file = sym (ap (λ (x : Fault × ℕ). x.1) p);
        })
    | inr h ↦ said_first (lines text) refl h.1
  ]
