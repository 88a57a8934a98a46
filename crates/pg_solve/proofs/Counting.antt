-- Different positions of one list that all stand in another are no more than that one has.
use Rattle.std.proofs.Common.{◌≡◌, ℕ, zero, suc, ◌<◌, ◌≤◌, Some, List, [], ◌∷◌, length, refl, subst}
use Rattle.std.proofs.Common.{arith, slice_get}
use Rattle.pg_solve.proofs.Common.{none-some, slice_get_within, Score, IsOpenTable, Game, Position}
use Rattle.pg_solve.proofs.Common.{contains_at, one_at, table-reached}
use Rattle.pg_solve.specs.Reached.{AreReachable, HasAllReachable}

module _ {A : Type 0} where
  -- without the member at a place
  without : List A → ℕ → List A
  without [] k = []
  without (y ∷ ys) zero = ys
  without (y ∷ ys) (suc k) = y ∷ without ys k

  length-without : (ys : List A) (k : ℕ) → k < length ys → suc (length (without ys k)) ≡ length ys
  unfolding without
  length-without [] k lt = absurd (omega arith)
  length-without (y ∷ ys) zero lt = refl
  length-without (y ∷ ys) (suc k) lt =
      let rest = length-without ys k (omega arith) in
      omega (arith, rest)

  at-without : (ys : List A) (k j : ℕ) (x : A)
      → (j ≡ k → ⊥)
      → slice_get ys j ≡ Some x
      → (i : ℕ) × (slice_get (without ys k) i ≡ Some x)
  unfolding without
  at-without [] k j x ne at = absurd (none-some x at)
  at-without (y ∷ ys) zero zero x ne at = absurd (ne refl)
  at-without (y ∷ ys) zero (suc j) x ne at = (j, at)
  at-without (y ∷ ys) (suc k) zero x ne at = (0, at)
  at-without (y ∷ ys) (suc k) (suc j) x ne at =
      let rest = at-without ys k j x (λ e. ne (omega (arith, e))) at in
      (suc rest.0, rest.1)

  different-le : (xs ys : List A)
      → ((i k : ℕ) (x : A) → slice_get xs i ≡ Some x → slice_get xs k ≡ Some x → i ≡ k)
      → ((i : ℕ) (x : A) → slice_get xs i ≡ Some x → (j : ℕ) × (slice_get ys j ≡ Some x))
      → length xs ≤ length ys
  different-le [] ys different stands = omega arith
  different-le (x ∷ xs) ys different stands =
      let first = stands 0 x refl in
      let few = length-without ys first.0 (slice_get_within ys first.0 x first.1) in
      let rest = different-le xs (without ys first.0)
      (λ i k z hi hk. let e = different (suc i) (suc k) z hi hk in omega (arith, e)) (λ i z at.
      let there = stands (suc i) z at in
      let apart : there.0 ≡ first.0 → ⊥ = λ e.
      let same : z ≡ x =
      one_at ys first.0 z x (subst (λ (j : ℕ). slice_get ys j ≡ Some z) e there.1) first.1 in
      let bad : suc i ≡ 0 =
      different (suc i) 0 x (subst (λ (w : A). slice_get xs i ≡ Some w) same at) refl in
      omega (arith, bad) in
      at-without ys first.0 there.0 z apart there.1) in
      omega (arith, rest, few)

-- what an open table has
pub open-reached : (g : Game) (t : Score) (budget : ℕ) (table : List Position)
    → IsOpenTable g t budget table
    → AreReachable g t budget table
open-reached g t budget table is = record {
  many = is.count;
  different = is.rules.different;
  reachable = table-reached g t table is.rules;
  undecided = is.rules.undecided;
}

-- so many positions can be reached
pub open-many : (g : Game) (t : Score) (budget : ℕ) (table all : List Position)
    → IsOpenTable g t budget table
    → HasAllReachable g all
    → ◌≤◌ budget (length all)
open-many g t budget table all is has =
    let le = different-le table all is.rules.different
    (λ i p at. contains_at all p (has p (table-reached g t table is.rules i p at))) in
    omega (arith, le, is.count)
