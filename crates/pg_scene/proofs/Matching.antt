-- Lists that agree place by place.
use Rattle.std.proofs.Common.{◌≡◌, ℕ, Bool, true, ◌&&◌, List, [], ◌∷◌, refl, sym, ap₂, arith}
use Rattle.std.proofs.Common.{true≢false}
use Rattle.std.specs.Prelude.{nat_eq}
use Rattle.pg_scene.proofs.Common.{nat_tests, and_parts}
use lib.Pointwise.{pointwise}

pub same-lists : {A : Type 0} (E : A → A → Bool)
    → ((a b : A) → E a b ≡ true → a ≡ b)
    → (xs ys : List A) → pointwise E xs ys ≡ true
    → xs ≡ ys
same-lists E one [] [] h = refl
same-lists E one [] (y ∷ ys) h = absurd (true≢false (sym h))
same-lists E one (x ∷ xs) [] h = absurd (true≢false (sym h))
same-lists E one (x ∷ xs) (y ∷ ys) h =
    let both = and_parts _ _ h in
    ap₂ (λ a b. a ∷ b) (one x y both.0) (same-lists E one xs ys both.1)

pub agree-itself : {A : Type 0} (E : A → A → Bool)
    → ((a : A) → E a a ≡ true)
    → (xs : List A) → pointwise E xs xs ≡ true
agree-itself E same [] = refl
agree-itself E same (x ∷ xs) = ap₂ (λ a b. a && b) (same x) (agree-itself E same xs)

-- whether two pairs of numbers are the same
abbrev pub is_pair : ℕ × ℕ → ℕ × ℕ → Bool
is_pair a b = nat_eq a.0 b.0 && nat_eq a.1 b.1

one-number : (a b : ℕ) → nat_eq a b ≡ true → a ≡ b
one-number a b h = grind (arith, nat_tests)

itself : (a : ℕ) → nat_eq a a ≡ true
itself a = grind (arith, nat_tests)

pub one-pair : (a b : ℕ × ℕ) → is_pair a b ≡ true → a ≡ b
one-pair a b h =
    let both = and_parts _ _ h in
    ap₂ (λ x y. (x, y)) (one-number a.0 b.0 both.0) (one-number a.1 b.1 both.1)

pub pair-itself : (a : ℕ × ℕ) → is_pair a a ≡ true
pair-itself a = ap₂ (λ x y. x && y) (itself a.0) (itself a.1)
