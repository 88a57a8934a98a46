-- The greatest of the values of a function at the free points.
use Rattle.std.proofs.Common.{◌≡◌, ℕ, zero, suc, ◌+◌, ◌<◌, ◌≤◌, max, Bool, true, ◌==◌, nat_lt, List}
use Rattle.std.proofs.Common.{[], ◌∷◌, map, if◌then◌else◌, eqb-true, eq-eqb, ltb-true, lt-ltb, refl}
use Rattle.std.proofs.Common.{sym, ap, ◌∙◌, subst, inl, inr, arith}
use Rattle.pg_game.proofs.Common.{cases_lt, cases_eq, cases_Bool, Contains}
use Rattle.pg_game.specs.declared.game.Game.{Game}
use Rattle.pg_game.specs.declared.position.Position.{Position}
use Rattle.pg_game.specs.Position.{is_free}
use Rattle.pg_game.specs.Game.{point_count, free_points}
use Rattle.pg_game.specs.Potential.{greatest}
use Rattle.pg_game.proofs.Members.{Contains-head, Contains-tail, true-at, member-from_any}
use Rattle.pg_game.proofs.FreePoints.{any-free_points, all-free_points}

-- ---- members of the list of free points

pub free-member : (g : Game) (p : Position) (v : ℕ)
    → v < point_count g
    → is_free p v ≡ true
    → Contains (free_points g p) v
free-member g p v within free =
    let found = member-from_any (λ q. q == v) (free_points g p)
    (any-free_points g p (λ q. q == v) v within free (eq-eqb v v refl)) in
    subst (λ (n : ℕ). Contains (free_points g p) n) (eqb-true found.0 v found.2) found.1

pub member-free : (g : Game) (p : Position) (v : ℕ)
    → Contains (free_points g p) v
    → is_free p v ≡ true
member-free g p v c = true-at (is_free p) (free_points g p) v
    (all-free_points g p (is_free p) (λ q within free. free)) c

pub member-within : (g : Game) (p : Position) (v : ℕ)
    → Contains (free_points g p) v
    → v < point_count g
member-within g p v c = ltb-true v (point_count g)
    (true-at (λ q. nat_lt q (point_count g)) (free_points g p) v (all-free_points g p
    (λ q. nat_lt q (point_count g)) (λ q within free. lt-ltb q (point_count g) within)) c)

-- ---- the greatest

pub greatest-le : (f : ℕ → ℕ) (xs : List ℕ) (m : ℕ)
    → ((x : ℕ) → Contains xs x → f x ≤ m)
    → greatest (map f xs) ≤ m
greatest-le f [] m each = omega arith
greatest-le f (x ∷ xs) m each =
    let here = each x (Contains-head x xs) in
    let rest = greatest-le f xs m (λ y c. each y (Contains-tail x y xs c)) in
    omega (arith, here, rest)

pub greatest-ge : (f : ℕ → ℕ) (xs : List ℕ) (x : ℕ) → Contains xs x → f x ≤ greatest (map f xs)
greatest-ge f [] x c = absurd (omega (arith, c.1))
greatest-ge f (y ∷ ys) x (zero, lt, is) = let same : f y ≡ f x = ap f is in omega (arith, same)
greatest-ge f (y ∷ ys) x (suc k, lt, is) =
    let rest = greatest-ge f ys x (k, omega arith, is) in
    omega (arith, rest)

-- some member has it
pub greatest-at : (f : ℕ → ℕ) (x : ℕ) (xs : List ℕ)
    → (v : ℕ) × Contains (x ∷ xs) v × (f v ≡ greatest (map f (x ∷ xs)))
greatest-at f x [] = (x, Contains-head x [], omega arith)
greatest-at f x (y ∷ ys) =
    let rest = greatest-at f y ys in
    elim (cases_lt (f x) (greatest (map f (y ∷ ys)))) [
      | inl more ↦ (rest.0, Contains-tail x rest.0 (y ∷ ys) rest.1, omega (arith, rest.2, more))
      | inr less ↦ (x, Contains-head x (y ∷ ys), omega (arith, less))
    ]

-- ---- the greatest found one number after the other

-- the greatest among the numbers below n that pass
unfoldable pub running : (ℕ → Bool) → (ℕ → ℕ) → ℕ → ℕ
running t f zero = 0
running t f (suc n) = max (running t f n) (if t n then f n else 0)

pub running-next : (t : ℕ → Bool) (f : ℕ → ℕ) (n : ℕ)
    → running t f (n + 1) ≡ max (running t f n) (if t n then f n else 0)
unfolding running
running-next t f n = let next : n + 1 ≡ suc n = omega arith in ap (running t f) next

running-le : (t : ℕ → Bool) (f : ℕ → ℕ) (n m : ℕ)
    → ((v : ℕ) → v < n → t v ≡ true → f v ≤ m)
    → running t f n ≤ m
unfolding running
running-le t f zero m each = omega arith
running-le t f (suc n) m each =
    let rest = running-le t f n m (λ v lt. each v (omega arith)) in
    elim (cases_Bool (t n)) [
      | inl on ↦ let here = each n (omega arith) on in rw on (omega (arith, rest, here))
      | inr off ↦ rw off (omega (arith, rest))
    ]

running-ge : (t : ℕ → Bool) (f : ℕ → ℕ) (n v : ℕ) → v < n → t v ≡ true → f v ≤ running t f n
unfolding running
running-ge t f zero v lt on = absurd (omega arith)
running-ge t f (suc n) v lt on = elim (cases_eq v n) [
  | inl e ↦
      let here : t n ≡ true = ap t (sym e) ∙ on in
      let same : f v ≡ f n = ap f e in
      rw here (omega (arith, same))
  | inr ne ↦ let rest = running-ge t f n v (omega arith) on in omega (arith, rest)
]

pub running-all : (g : Game) (p : Position) (f : ℕ → ℕ) (n : ℕ)
    → n ≡ point_count g
    → running (is_free p) f n ≡ greatest (map f (free_points g p))
running-all g p f n is =
    let low = running-le (is_free p) f n (greatest (map f (free_points g p))) (λ v lt free.
    greatest-ge f (free_points g p) v (free-member g p v (omega (arith, lt, is)) free)) in
    let high = greatest-le f (free_points g p) (running (is_free p) f n) (λ v c. running-ge
    (is_free p) f n v (omega (arith, member-within g p v c, is)) (member-free g p v c)) in
    omega (arith, low, high)

pub greatest-same : (f h : ℕ → ℕ) (xs : List ℕ)
    → ((x : ℕ) → Contains xs x → f x ≡ h x)
    → greatest (map f xs) ≡ greatest (map h xs)
greatest-same f h [] each = refl
greatest-same f h (x ∷ xs) each =
    let here = each x (Contains-head x xs) in
    let rest = greatest-same f h xs (λ y c. each y (Contains-tail x y xs c)) in
    omega (arith, here, rest)

pub running-none : (t : ℕ → Bool) (f : ℕ → ℕ) → running t f 0 ≡ 0
unfolding running
running-none t f = refl
