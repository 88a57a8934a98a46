-- Who takes the last point, before and after a move.
use Rattle.std.proofs.Common.{◌≡◌, ℕ, ◌+◌, ◌-◌, ◌%◌, ◌<◌, ◌≤◌, true, ◌==◌, nat_lt, nat_eq, eqb-true}
use Rattle.std.proofs.Common.{eq-eqb, ltb-true, lt-ltb, refl, sym, ap, ◌∙◌, subst, arith}
use Rattle.pg_game.proofs.Common.{and_parts, and_from, le-ltb, add-mod_right, zero-mod, X, Y}
use Rattle.pg_game.specs.Avoider.{x_takes_last}

-- ---- by the tests

pub takes-x : (bias left free : ℕ)
    → 0 < free
    → nat_eq ((free - 1) % (bias + 1)) 0 ≡ x_takes_last bias X left free
unfolding x_takes_last
takes-x bias left free some = rw (lt-ltb 0 free some) refl

pub takes-x_none : (bias left free : ℕ) → free ≤ 0 → nat_lt 0 free ≡ x_takes_last bias X left free
unfolding x_takes_last
takes-x_none bias left free none = rw (le-ltb 0 free none) refl

pub takes-y : (bias left free : ℕ)
    → left < free
    → nat_eq ((free - left - 1) % (bias + 1)) 0 ≡ x_takes_last bias Y left free
unfolding x_takes_last
takes-y bias left free some = rw (lt-ltb left free some) refl

pub takes-y_none : (bias left free : ℕ)
    → free ≤ left
    → nat_lt left free ≡ x_takes_last bias Y left free
unfolding x_takes_last
takes-y_none bias left free none = rw (le-ltb left free none) refl

-- ---- by moves

same_rest : (bias a b : ℕ) → a ≡ b → a % (bias + 1) == 0 ≡ true → b % (bias + 1) == 0 ≡ true
same_rest bias a b e h = subst (λ n. n % (bias + 1) == 0 ≡ true) e h

-- one of Y's points that isn't the last of its turn
pub last-within_turn : (bias left free left_before free_before : ℕ)
    → left + 1 ≡ left_before
    → free + 1 ≡ free_before
    → x_takes_last bias Y left free ≡ true
    → x_takes_last bias Y left_before free_before ≡ true
unfolding x_takes_last
last-within_turn bias left free left_before free_before l f h =
    let parts = and_parts (nat_lt left free) ((free - left - 1) % (bias + 1) == 0) h in
    let more = ltb-true left free parts.0 in
    and_from _ _ (lt-ltb left_before free_before (omega (arith, more, l, f)))
    (same_rest bias (free - left - 1) (free_before - left_before - 1) (omega (arith, l, f)) parts.1)

-- the last of its turn
pub last-after_y : (bias left free left_before free_before : ℕ)
    → left_before ≡ 1
    → free + 1 ≡ free_before
    → x_takes_last bias X left free ≡ true
    → x_takes_last bias Y left_before free_before ≡ true
unfolding x_takes_last
last-after_y bias left free left_before free_before l f h =
    let parts = and_parts (nat_lt 0 free) ((free - 1) % (bias + 1) == 0) h in
    let more = ltb-true 0 free parts.0 in
    and_from _ _ (lt-ltb left_before free_before (omega (arith, more, l, f)))
    (same_rest bias (free - 1) (free_before - left_before - 1) (omega (arith, l, f)) parts.1)

-- X's point, with Y's whole turn to come
pub last-after_x : (bias left free left_before free_before : ℕ)
    → left ≡ bias
    → free + 1 ≡ free_before
    → x_takes_last bias Y left free ≡ true
    → x_takes_last bias X left_before free_before ≡ true
unfolding x_takes_last
last-after_x bias left free left_before free_before l f h =
    let parts = and_parts (nat_lt left free) ((free - left - 1) % (bias + 1) == 0) h in
    let more = ltb-true left free parts.0 in
    let rest = eqb-true ((free - left - 1) % (bias + 1)) 0 parts.1 in
    let sum : (free - left - 1) + (bias + 1) ≡ free_before - 1 = omega (arith, more, l, f) in
    let whole =
    ap (λ n. n % (bias + 1)) (sym sum) ∙ add-mod_right (free - left - 1) (bias + 1) ∙ rest in
    and_from _ _ (lt-ltb 0 free_before (omega (arith, f)))
    (eq-eqb ((free_before - 1) % (bias + 1)) 0 whole)

-- X's point where it was the only one
pub last-only : (bias left free : ℕ) → free ≡ 1 → x_takes_last bias X left free ≡ true
unfolding x_takes_last
last-only bias left free one =
    let none : free - 1 ≡ 0 = omega (arith, one) in
    and_from _ _ (lt-ltb 0 free (omega (arith, one)))
    (eq-eqb ((free - 1) % (bias + 1)) 0 (ap (λ n. n % (bias + 1)) none ∙ zero-mod (bias + 1)))
