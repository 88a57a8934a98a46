-- The fault that is told is the first.
use Rattle.std.proofs.Common.{◌≡◌, ◌∙◌, ℕ, Bool, true, false, cond, ◌⊎◌, inl, inr, List, [], ◌∷◌}
use Rattle.std.proofs.Common.{◌++◌, length, refl, sym, ap, Option, Some, None, Result, Ok, Err}
use Rattle.std.proofs.Common.{arith}
use Rattle.std.specs.Prelude.{nat_lt, not, is_none, codes}
use Rattle.pg_record.proofs.Common.{bytes_eq, ltb-true, false≢true, and_then, least, reading, Bytes}
use Rattle.pg_record.proofs.Common.{lines, number, parts, first_fault, is_least, unless_err, Game}
use Rattle.std.proofs.lemmas.Slice.Eq.{bytes_eq-Decides}
use Rattle.pg_record.specs.declared.event.Event.{Event}
use Rattle.pg_record.specs.declared.event.Event.TheVariants.{Play, Back}
use Rattle.pg_record.specs.RecordFile.{move_of, event_from, event_of, event_faults, is_full}
use Rattle.pg_record.specs.RecordFile.{with_one, after, said, record_of}
use Rattle.pg_record.specs.Faults.{is_refused, line_faults, IsFirstFault}
use Rattle.pg_record.specs.declared.fault.Fault.{Fault}
use Rattle.pg_record.specs.declared.fault.Fault.TheVariants as faults

abbrev fault_or : {A F : Type 0} → F → Result A F → F
fault_or f (Ok a) = f
fault_or f (Err g) = g

err_is : {A F : Type 0} (f g : F) → ◌≡◌ {A = Result A F} (Err f) (Err g) → f ≡ g
err_is f g e = ap (λ (r : Result _ _). fault_or f r) e

-- an if-chain, by the way that the test went
pub chosen : {A : Type 0} (b : Bool) (x y z : A)
    → cond b x y ≡ z
    → ((b ≡ true) × (x ≡ z)) ⊎ ((b ≡ false) × (y ≡ z))
chosen true x y z e = inl (refl, e)
chosen false x y z e = inr (refl, e)

abbrev events_fault : Fault → Result (List Event) Fault
events_fault f = Err f

-- ---- the least of a line

form_is : (f : Fault) → events_fault faults.Form ≡ Err f → Some faults.Form ≡ Some f
form_is f e = ap (λ (x : Fault). Some x) (err_is faults.Form f e)

back-least : (g : Game) (events : List Event) (named : Bool) (f : Fault)
    → and_then (cond named (Ok Back) (Err faults.Form)) (with_one g events) ≡ Err f
    → least ((faults.Form, not named) ∷ event_faults g events Back) ≡ Some f
back-least g events true f e =
    unless_err (least (event_faults g events Back)) f (events ++ Back ∷ []) e
back-least g events false f e = form_is f e

move-least : (g : Game) (events : List Event) (named : Bool) (n : Option ℕ) (f : Fault)
    → and_then (cond named (move_of n) (Err faults.Form)) (with_one g events) ≡ Err f
    → least ((faults.Form, not named) ∷ (faults.Number, is_none n) ∷ (
      faults.Move,
      is_refused g events n,
    ) ∷ (faults.Limit, is_full events) ∷ []) ≡ Some f
move-least g events true (Some v) f e =
    unless_err (least (event_faults g events (Play v))) f (events ++ Play v ∷ []) e
move-least g events true None f e =
    ap (λ (x : Fault). Some x) (err_is {A = List Event} faults.Number f e)
move-least g events false n f e = form_is f e

words-least : (g : Game) (events : List Event) (ws : List Bytes) (f : Fault)
    → and_then (event_from ws) (with_one g events) ≡ Err f
    → least (line_faults g events ws) ≡ Some f
words-least g events [] f e = form_is f e
words-least g events (name ∷ []) f e = back-least g events (bytes_eq name (codes "back")) f e
words-least g events (name ∷ word ∷ []) f e =
    move-least g events (bytes_eq name (codes "move")) (number word) f e
words-least g events (name ∷ word ∷ other ∷ others) f e = form_is f e

line-least : (g : Game) (events : List Event) (line : Bytes) (f : Fault)
    → after g events line ≡ Err f
    → least (line_faults g events (parts 32 line)) ≡ Some f
unfolding after event_of
line-least g events line f e = words-least g events (parts 32 line) f e

-- ---- the file

is_header : (first : Bytes)
    → bytes_eq first (codes "posgame-record 1") ≡ true
    → first ≡ codes "posgame-record 1"
is_header first e = (bytes_eq-Decides first (codes "posgame-record 1")).0 e

not_header : (first : Bytes)
    → bytes_eq first (codes "posgame-record 1") ≡ false
    → first ≡ codes "posgame-record 1"
    → ⊥
not_header first off same =
    false≢true (sym off ∙ (bytes_eq-Decides first (codes "posgame-record 1")).1 same)

abbrev line_or : Bytes → List Bytes → Bytes
line_or d [] = d
line_or d (x ∷ xs) = x

module _ (g : Game) (text : Bytes) (f : Fault) (m : ℕ) where
  headless : ((behind : List Bytes) → lines text ≡ codes "posgame-record 1" ∷ behind → ⊥)
      → ◌≡◌ {A = Result (List Event) (Fault × ℕ)} (Err (faults.Header, 1)) (Err (f, m))
      → IsFirstFault g text f m
  headless other e =
      let p : ◌≡◌ {A = Fault × ℕ} (faults.Header, 1) (f, m) = err_is (faults.Header, 1) (f, m) e in
      inr (inl (record {
        other = other;
        fault_is = sym (ap (λ (x : Fault × ℕ). x.0) p);
        place = sym (ap (λ (x : Fault × ℕ). x.1) p);
      }))

  said-first : (ls : List Bytes)
      → lines text ≡ ls
      → said g ls ≡ Err (f, m)
      → IsFirstFault g text f m
  said-first [] is e = headless (λ behind h.
      let long = ap (λ (xs : List Bytes). length xs) (sym is ∙ h) in absurd (omega (arith, long))) e
  said-first (first ∷ others) is e = elim (chosen (bytes_eq first (codes "posgame-record 1"))
      (reading (after g) 2 [] others) (Err (faults.Header, 1)) (Err (f, m)) e) [
        | inl h ↦
            let t = first_fault (after g) [] 2 others f m h.1 in
            let bad = t.2 in
            let cut : lines text
            ≡ codes "posgame-record 1" ∷ (bad.before ++ bad.line ∷ bad.behind) =
            is ∙ (λ i. is_header first h.0 i ∷ bad.cut i) in
            inr (inr (record {
              before = bad.before;
              line = bad.line;
              behind = bad.behind;
              events = bad.state;
              cut = cut;
              sound = bad.sound 2;
              is_least = is_least _ f (line-least g bad.state bad.line f bad.here);
              place = omega (arith, t.1, bad.number);
            }))
        | inr h ↦ headless (λ behind k.
            not_header first h.0 (ap (λ (xs : List Bytes). line_or first xs) (sym is ∙ k))) h.1
      ]

  pub first-told : record_of g text ≡ Err (f, m) → IsFirstFault g text f m
  unfolding record_of
  first-told e = elim (chosen (nat_lt 1048576 (length text)) (Err (
    faults.Size,
    0,
  )) (said g (lines text)) (Err (f, m)) e) [
    | inl h ↦
        let p : ◌≡◌ {A = Fault × ℕ} (faults.Size, 0) (f, m) = err_is (faults.Size, 0) (f, m) h.1 in
        inl (record {
          large = ltb-true 1048576 (length text) h.0;
          fault_is = sym (ap (λ (x : Fault × ℕ). x.0) p);
          whole_file = sym (ap (λ (x : Fault × ℕ). x.1) p);
        })
    | inr h ↦ said-first (lines text) refl h.1
  ]
