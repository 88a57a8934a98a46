-- What is known from the answers of moves.
use Rattle.std.proofs.Common.{◌≡◌, Bool, true, false, not, Option, Some, None, List, [], ◌∷◌, map}
use Rattle.std.proofs.Common.{refl, sym, ap, ◌∙◌, inl, inr, ◌⊎◌}
use Rattle.pg_met.proofs.Common.{cases_Bool, and_parts, and_from, or_cases, or_left, or_right}
use Rattle.pg_met.proofs.Common.{false≢true, cond-true, cond-false, list_any, list_all, Contains}
use Rattle.pg_met.proofs.Common.{Side, Contains-head, Contains-tail, answer_for, is_answer}
use Rattle.pg_met.proofs.Common.{by_moves, same_some}

pub is_answer-true : (b : Bool) (o : Option Bool) → is_answer b o ≡ true → o ≡ Some b
is_answer-true true None h = absurd (false≢true h)
is_answer-true false None h = absurd (false≢true h)
is_answer-true true (Some true) h = refl
is_answer-true true (Some false) h = absurd (false≢true h)
is_answer-true false (Some true) h = absurd (false≢true h)
is_answer-true false (Some false) h = refl

pub is_answer-same : (b : Bool) → is_answer b (Some b) ≡ true
is_answer-same true = refl
is_answer-same false = refl

pub is_answer-from : (b : Bool) (o : Option Bool) → o ≡ Some b → is_answer b o ≡ true
is_answer-from b o h = ap (is_answer b) h ∙ is_answer-same b

-- the other answer isn't this one
is_answer-other : (b : Bool) (o : Option Bool) → is_answer (not b) o ≡ true → is_answer b o ≡ false
is_answer-other true None h = refl
is_answer-other false None h = refl
is_answer-other true (Some true) h = absurd (false≢true h)
is_answer-other true (Some false) h = refl
is_answer-other false (Some true) h = refl
is_answer-other false (Some false) h = absurd (false≢true h)

none_wanted : (b : Bool) (os : List (Option Bool))
    → list_all (is_answer (not b)) os ≡ true
    → list_any (is_answer b) os ≡ false
none_wanted b [] h = refl
none_wanted b (o ∷ os) h =
    let parts = and_parts _ _ h in
    rw (is_answer-other b o parts.0) (none_wanted b os parts.1)

-- ---- the two ways to an answer

pub by_moves-some : (side : Side) (os : List (Option Bool))
    → list_any (is_answer (answer_for side)) os ≡ true
    → by_moves side os ≡ Some (answer_for side)
unfolding by_moves
by_moves-some side os h = cond-true _ _ _ h

pub by_moves-all : (side : Side) (os : List (Option Bool))
    → list_all (is_answer (not (answer_for side))) os ≡ true
    → by_moves side os ≡ Some (not (answer_for side))
unfolding by_moves
by_moves-all side os h = cond-false _ _ _ (none_wanted (answer_for side) os h) ∙ cond-true _ _ _ h

-- an answer is that of some move, or that of all
pub by_moves-cases : (side : Side) (os : List (Option Bool)) (b : Bool)
    → by_moves side os ≡ Some b
    → ((answer_for side ≡ b) × (list_any (is_answer (answer_for side)) os ≡ true))
    ⊎ ((not (answer_for side) ≡ b) × (list_all (is_answer (not (answer_for side))) os ≡ true))
unfolding by_moves
by_moves-cases side os b h = elim (cases_Bool (list_any (is_answer (answer_for side)) os)) [
  | inl some ↦ inl (same_some (sym (cond-true _ _ _ some) ∙ h), some)
  | inr none ↦ elim (cases_Bool (list_all (is_answer (not (answer_for side))) os)) [
    | inl all ↦ inr (same_some (sym (cond-true _ _ _ all) ∙ sym (cond-false _ _ _ none) ∙ h), all)
    | inr rest ↦ absurd (differ (sym (cond-false _ _ _ rest) ∙ sym (cond-false _ _ _ none) ∙ h))
  ]
]
  where
    differ : {c : Bool} → ◌≡◌ {A = Option Bool} None (Some c) → ⊥
    differ e = cc

-- ---- more answers

module _ {X : Type 0} (f h : X → Option Bool) where
  some-more : (b : Bool) (xs : List X)
      → ((x : X) → Contains xs x → f x ≡ Some b → h x ≡ Some b)
      → list_any (is_answer b) (map f xs) ≡ true
      → list_any (is_answer b) (map h xs) ≡ true
  some-more b [] each on = on
  some-more b (x ∷ xs) each on = elim (or_cases (is_answer b (f x)) _ on) [
    | inl here ↦ or_left _ _
        (is_answer-from b (h x) (each x (Contains-head x xs) (is_answer-true b (f x) here)))
    | inr later ↦ or_right _ _ (some-more b xs (λ y c. each y (Contains-tail x y xs c)) later)
  ]

  all-more : (b : Bool) (xs : List X)
      → ((x : X) → Contains xs x → f x ≡ Some b → h x ≡ Some b)
      → list_all (is_answer b) (map f xs) ≡ true
      → list_all (is_answer b) (map h xs) ≡ true
  all-more b [] each on = on
  all-more b (x ∷ xs) each on =
      let parts = and_parts _ _ on in
      and_from _ _
      (is_answer-from b (h x) (each x (Contains-head x xs) (is_answer-true b (f x) parts.0)))
      (all-more b xs (λ y c. each y (Contains-tail x y xs c)) parts.1)

  -- where more is known of the moves, what was known stays
  pub by_moves-more : (side : Side) (xs : List X) (b : Bool)
      → ((x : X) → Contains xs x → (a : Bool) → f x ≡ Some a → h x ≡ Some a)
      → by_moves side (map f xs) ≡ Some b
      → by_moves side (map h xs) ≡ Some b
  by_moves-more side xs b each known = elim (by_moves-cases side (map f xs) b known) [
    | inl some ↦ by_moves-some side (map h xs)
        (some-more (answer_for side) xs (λ x c. each x c (answer_for side)) some.1)
        ∙ ap Some some.0
    | inr all ↦ by_moves-all side (map h xs)
        (all-more (not (answer_for side)) xs (λ x c. each x c (not (answer_for side))) all.1)
        ∙ ap Some all.0
  ]
