-- Points in order, and points that stand twice.
use Rattle.std.proofs.Common.{◌≡◌, ℕ, zero, suc, ◌+◌, ◌<◌, ◌≤◌, ◌==◌, true, false, cond, List, []}
use Rattle.std.proofs.Common.{◌∷◌, length, get_or, ltb, refl, sym, ap, subst, arith, Bool, ne_eqb}
use Rattle.std.proofs.Common.{inl, inr, eq-eqb, ltb-true, ltb-false}
use Rattle.pg_base.proofs.Common.{get_or-le-sum_by, sum_by-cons, sum_by-IsPermutation}
use Rattle.pg_base.proofs.Common.{AllPairs-from_increasing, cases_eq, All, AllPairs, count_by}
use Rattle.pg_base.proofs.Common.{AllAdjacentBelow, IsPermutation, IsSorted, IsStrictlyIncreasing}
use Rattle.pg_base.proofs.Common.{nat_cmp, is_lt, nat_tests}
use Rattle.pg_base.specs.Line.{StandsTwice}

not_below : (a b : ℕ) → is_lt (nat_cmp b a) ≡ false → a ≤ b
not_below a b h = grind (arith, nat_tests)

counted_here : (v : ℕ) (x : ℕ) → x ≡ v → ◌≡◌ {A = ℕ} (cond (x == v) 1 0) 1
counted_here v x e = ap (λ b. cond b 1 0) (eq-eqb x v e)

count-cons : (v x : ℕ) (xs : List ℕ)
    → count_by (λ q. q == v) (x ∷ xs) ≡ cond (x == v) 1 0 + count_by (λ q. q == v) xs
count-cons v x xs = sum_by-cons (λ q. cond (q == v) 1 0) x xs

-- two neighbours that are one point
count-neighbours : (v : ℕ) (xs : List ℕ) (k : ℕ)
    → k + 1 < length xs
    → get_or xs k 0 ≡ v
    → get_or xs (k + 1) 0 ≡ v
    → 2 ≤ count_by (λ q. q == v) xs
count-neighbours v [] k h e f = absurd (omega arith)
count-neighbours v (x ∷ xs) zero h e f =
    let one = counted_here v x e in
    let later : get_or xs 0 0 ≡ v = f in
    let other = get_or-le-sum_by (λ q. cond (q == v) 1 0) xs 0 0 (omega arith) in
    let two = counted_here v (get_or xs 0 0) later in
    omega (arith, one, two, other, count-cons v x xs)
count-neighbours v (x ∷ xs) (suc k) h e f =
    let next : suc k + 1 ≡ suc (k + 1) = omega arith in
    let there : get_or xs (k + 1) 0 ≡ v = subst (λ (i : ℕ). get_or (x ∷ xs) i 0 ≡ v) next f in
    let rest = count-neighbours v xs k (omega arith) e there in
    omega (arith, rest, count-cons v x xs)

-- a list in order with two neighbours of which the first isn't below the second
pub StandsTwice-from_neighbours : (xs points : List ℕ)
    → IsPermutation points xs
    → IsSorted nat_cmp xs
    → (k : ℕ) → k + 1 < length xs
    → ltb (get_or xs k 0) (get_or xs (k + 1) 0) ≡ false
    → StandsTwice points
StandsTwice-from_neighbours xs points moved sorted k h off =
    let up : get_or xs k 0 ≤ get_or xs (k + 1) 0 = not_below _ _ (sorted k 0 (omega arith) h) in
    let down : get_or xs (k + 1) 0 ≤ get_or xs k 0 = ltb-false _ _ off in
    let same : get_or xs (k + 1) 0 ≡ get_or xs k 0 = omega arith in
    record {
      point = get_or xs k 0;
      twice = subst (λ (n : ℕ). 2 ≤ n)
          (sum_by-IsPermutation (λ q. cond (q == get_or xs k 0) 1 0) points xs moved)
          (count-neighbours (get_or xs k 0) xs k h refl same);
    }

pub IsStrictlyIncreasing-from_adjacent : (xs : List ℕ)
    → AllAdjacentBelow (λ x y. true ≡ ltb x y) xs (length xs)
    → IsStrictlyIncreasing xs
IsStrictlyIncreasing-from_adjacent xs all k h = ltb-true _ _ (sym (all k 0 h))

-- points that are all above one don't hold it
count-above : (v : ℕ) (xs : List ℕ) → All (λ y. v < y) xs → count_by (λ q. q == v) xs ≡ 0
count-above v [] above = refl
count-above v (x ∷ xs) above =
    let none : ◌≡◌ {A = ℕ} (cond (x == v) 1 0) 0 = (let one_of : Bool → ℕ = λ b. cond b 1 0 in
    ap one_of (ne_eqb x v (λ e. let here : v < x = above 0 0 (omega arith) in omega arith))) in
    omega (
      arith,
      none,
      count-above v xs (λ k d h. above (suc k) d (omega arith)),
      count-cons v x xs,
    )

count-rising : (v : ℕ) (xs : List ℕ) → AllPairs (λ x y. x < y) xs → count_by (λ q. q == v) xs ≤ 1
count-rising v [] rising = omega arith
count-rising v (x ∷ xs) rising = elim (cases_eq x v) [
  | inl e ↦
      let higher : All (λ y. v < y) xs = λ k d h. subst (λ (p : ℕ). p < get_or xs k d) e
      (rising 0 (suc k) d (omega arith) (omega arith)) in
      let later = count-above v xs higher in
      omega (arith, counted_here v x e, later, count-cons v x xs)
  | inr ne ↦
      let none : ◌≡◌ {A = ℕ} (cond (x == v) 1 0) 0 =
      (let one_of : Bool → ℕ = λ b. cond b 1 0 in ap one_of (ne_eqb x v ne)) in
      omega (
        arith,
        none,
        count-rising v xs
            (λ i j d before inside. rising (suc i) (suc j) d (omega arith) (omega arith)),
        count-cons v x xs,
      )
]

-- where points ascend, each stands once at most
pub count-ascending : (v : ℕ) (xs : List ℕ)
    → IsStrictlyIncreasing xs
    → count_by (λ q. q == v) xs ≤ 1
count-ascending v xs rising = count-rising v xs (AllPairs-from_increasing xs rising)

-- where an order of the points ascends, no point stands twice
pub not_twice : (xs points : List ℕ)
    → IsPermutation points xs
    → IsStrictlyIncreasing xs
    → StandsTwice points
    → ⊥
not_twice xs points moved rising twice =
    let once = count-ascending twice.point xs rising in
    let same = sum_by-IsPermutation (λ q. cond (q == twice.point) 1 0) points xs moved in
    omega (arith, once, same, twice.twice)
