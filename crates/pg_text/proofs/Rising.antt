-- Numbers of a list that ascend: each and the next are in order.
use Rattle.std.proofs.Common.{◌≡◌, ℕ, ◌+◌, ◌<◌, Bool, true, false, ◌&&◌, List, [], ◌∷◌, zero, suc}
use Rattle.std.proofs.Common.{length, map, get_or, add-one, arith, refl, sym}
use Rattle.std.specs.Prelude.{nat_lt, nat_le}
use Rattle.pg_text.proofs.Common.{IsAllAdjacentAnswer, nat_tests}
use Rattle.pg_text.specs.Text.{ascend_from}

-- the numbers of an element and the next one ascend
abbrev pub is_below : {X : Type 0} → (X → ℕ) → X → X → Bool
is_below key a b = nat_lt (key a) (key b)

step_up : (m n : ℕ) (others : Bool)
    → nat_lt m n ≡ true
    → others ≡ true
    → nat_le (m + 1) n && others ≡ true
step_up m n others lt e =
    let here : nat_le (m + 1) n ≡ true = grind (arith, nat_tests) in
    rw (here, e) refl

rise : {X : Type 0} (key : X → ℕ) (x : X) (xs : List X)
    → ((k : ℕ) (d : X) → suc k < length (x ∷ xs)
    → is_below key (get_or (x ∷ xs) k d) (get_or (x ∷ xs) (suc k) d) ≡ true)
    → ascend_from (key x + 1) (map key xs) ≡ true
rise key x [] h = refl
rise key x (y ∷ ys) h = step_up (key x) (key y) _ (h 0 x (omega arith))
    (rise key y ys (λ k d lt. h (suc k) d (omega (arith, lt))))

rises : {X : Type 0} (key : X → ℕ) (xs : List X)
    → ((k : ℕ) (d : X) → suc k < length xs
    → is_below key (get_or xs k d) (get_or xs (suc k) d) ≡ true)
    → ascend_from 0 (map key xs) ≡ true
rises key [] h = refl
rises key (x ∷ xs) h =
    let here : nat_le 0 (key x) ≡ true = grind (arith, nat_tests) in
    rw (here, rise key x xs h) refl

none_left : (b : Bool) → b && false ≡ false
none_left true = refl
none_left false = refl

past : (m n : ℕ) → nat_lt m n ≡ false → nat_le (m + 1) n ≡ false
past m n e = grind (arith, nat_tests)

falls : {X : Type 0} (key : X → ℕ) (n : ℕ) (xs : List X) (k : ℕ)
    → suc k < length xs
    → ((d : X) → is_below key (get_or xs k d) (get_or xs (suc k) d) ≡ false)
    → ascend_from n (map key xs) ≡ false
falls key n [] k lt h = absurd (omega (arith, lt))
falls key n (x ∷ []) k lt h = absurd (omega (arith, lt))
falls key n (x ∷ y ∷ ys) zero lt h = rw (past (key x) (key y) (h x)) (none_left (nat_le n (key x)))
falls key n (x ∷ y ∷ ys) (suc k) lt h =
    rw (falls key (key x + 1) (y ∷ ys) k (omega (arith, lt)) h) (none_left (nat_le n (key x)))

-- what `is_sorted_by` answers where it asks whether the numbers of two elements ascend
pub ascends : {X : Type 0} (key : X → ℕ) (xs : List X) (r : Bool)
    → IsAllAdjacentAnswer (λ a b t. t ≡ is_below key a b) xs r
    → r ≡ ascend_from 0 (map key xs)
ascends key xs true h =
    sym (rises key xs (λ k d lt. let here = h k d (omega (arith, lt)) in sym (rw add-one at here)))
ascends key xs false h = sym
    (falls key 0 xs h.0 (omega (arith, h.1)) (λ d. let here = h.2 d in sym (rw add-one at here)))
