-- The least of the values of a function at the members of a list.
use Rattle.std.proofs.Common.{◌≡◌, ℕ, zero, suc, ◌+◌, ◌<◌, ◌≤◌, min, Bool, true, false}
use Rattle.std.proofs.Common.{if◌then◌else◌, List, [], ◌∷◌, map, refl, sym, ap, ◌∙◌, inl, inr}
use Rattle.std.proofs.Common.{arith}
use Rattle.pg_potential.proofs.Common.{cases_lt, cases_eq, cases_Bool, Contains, Game, Position}
use Rattle.pg_potential.proofs.Common.{is_free, point_count, free_points, is_full, least}
use Rattle.pg_potential.proofs.Common.{first_free}
use Rattle.pg_potential.proofs.Common.{free-member, member-free, member-within}
use Rattle.pg_game.proofs.Members.{Contains-head, Contains-tail}

pub least-le : (f : ℕ → ℕ) (xs : List ℕ) (x : ℕ) → Contains xs x → least (map f xs) ≤ f x
least-le f [] x c = absurd (omega (arith, c.1))
least-le f (y ∷ []) x (zero, lt, is) = let same = ap f is in omega (arith, same)
least-le f (y ∷ []) x (suc k, lt, is) = absurd (omega (arith, lt))
least-le f (y ∷ (z ∷ zs)) x (zero, lt, is) = let same = ap f is in omega (arith, same)
least-le f (y ∷ (z ∷ zs)) x (suc k, lt, is) =
    let rest = least-le f (z ∷ zs) x (k, omega arith, is) in
    omega (arith, rest)

-- some member has it
pub least-at : (f : ℕ → ℕ) (x : ℕ) (xs : List ℕ)
    → (v : ℕ) × Contains (x ∷ xs) v × (f v ≡ least (map f (x ∷ xs)))
least-at f x [] = (x, Contains-head x [], omega arith)
least-at f x (y ∷ ys) =
    let rest = least-at f y ys in
    elim (cases_lt (least (map f (y ∷ ys))) (f x)) [
      | inl less ↦ (rest.0, Contains-tail x rest.0 (y ∷ ys) rest.1, omega (arith, rest.2, less))
      | inr more ↦ (x, Contains-head x (y ∷ ys), omega (arith, more))
    ]

pub least-same : (f h : ℕ → ℕ) (xs : List ℕ)
    → ((x : ℕ) → Contains xs x → f x ≡ h x)
    → least (map f xs) ≡ least (map h xs)
least-same f h [] each = refl
least-same f h (x ∷ []) each = each x (Contains-head x [])
least-same f h (x ∷ (y ∷ ys)) each =
    let here = each x (Contains-head x (y ∷ ys)) in
    let rest = least-same f h (y ∷ ys) (λ z c. each z (Contains-tail x z (y ∷ ys) c)) in
    omega (arith, here, rest)

-- ---- the least found one number after the other

-- the least among the numbers below n that pass, and no more than the top
unfoldable pub running : (ℕ → Bool) → (ℕ → ℕ) → ℕ → ℕ → ℕ
running t f top zero = top
running t f top (suc n) = min (running t f top n) (if t n then f n else top)

pub running-none : (t : ℕ → Bool) (f : ℕ → ℕ) (top : ℕ) → running t f top 0 ≡ top
unfolding running
running-none t f top = refl

pub running-next : (t : ℕ → Bool) (f : ℕ → ℕ) (top n : ℕ)
    → running t f top (n + 1) ≡ min (running t f top n) (if t n then f n else top)
unfolding running
running-next t f top n = let next : n + 1 ≡ suc n = omega arith in ap (running t f top) next

running-ge : (t : ℕ → Bool) (f : ℕ → ℕ) (top n m : ℕ)
    → m ≤ top
    → ((v : ℕ) → v < n → t v ≡ true → m ≤ f v)
    → m ≤ running t f top n
unfolding running
running-ge t f top zero m le each = le
running-ge t f top (suc n) m le each =
    let rest = running-ge t f top n m le (λ v lt. each v (omega arith)) in
    elim (cases_Bool (t n)) [
      | inl on ↦ let here = each n (omega arith) on in rw on (omega (arith, rest, here))
      | inr off ↦ rw off (omega (arith, rest, le))
    ]

running-le : (t : ℕ → Bool) (f : ℕ → ℕ) (top n v : ℕ) → v < n → t v ≡ true → running t f top n ≤ f v
unfolding running
running-le t f top zero v lt on = absurd (omega arith)
running-le t f top (suc n) v lt on = elim (cases_eq v n) [
  | inl e ↦
      let here : t n ≡ true = ap t (sym e) ∙ on in
      let same : f v ≡ f n = ap f e in
      rw here (omega (arith, same))
  | inr ne ↦ let rest = running-le t f top n v (omega arith) on in omega (arith, rest)
]

pub running-all : (g : Game) (p : Position) (f : ℕ → ℕ) (top n : ℕ)
    → n ≡ point_count g
    → is_full g p ≡ false
    → ((v : ℕ) → f v ≤ top)
    → running (is_free p) f top n ≡ least (map f (free_points g p))
running-all g p f top n is some fits =
    let point = first_free g p some in
    let best = attained (free_points g p) (free-member g p point.0 point.1 point.2) in
    let low = running-le (is_free p) f top n best.0
    (omega (arith, member-within g p best.0 best.1, is)) (member-free g p best.0 best.1) in
    let high = running-ge (is_free p) f top n (least (map f (free_points g p)))
    (omega (arith, best.2, fits best.0)) (λ v lt free. least-le f (free_points g p) v
    (free-member g p v (omega (arith, lt, is)) free)) in
    omega (arith, low, high, best.2)
  where
    attained : {x : ℕ} (xs : List ℕ)
        → Contains xs x
        → (w : ℕ) × Contains xs w × (f w ≡ least (map f xs))
    attained [] c = absurd (omega (arith, c.1))
    attained (x ∷ xs) c = least-at f x xs
