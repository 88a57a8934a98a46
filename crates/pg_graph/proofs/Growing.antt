-- A set that grows by the candidates whose ends its edges don't join.
use Rattle.std.proofs.Common.{◌≡◌, ℕ, Bool, true, false, suc, refl, arith, inl, inr}
use Rattle.pg_graph.proofs.Common.{cases_Bool, plus, either, same_sets, sets}
use Rattle.pg_graph.specs.declared.graph.Graph.{Graph}
use Rattle.pg_graph.specs.Graph.{spans_in}
use Rattle.pg_graph.specs.Joiner.{with_candidate, extended}

pub plus_either : (a b : ℕ → Bool) (k : ℕ) → plus (either a b) k ≡ either a (plus b k)
plus_either a b k = same_sets _ _ (λ z h. grind (arith, sets)) (λ z h. grind (arith, sets))

module _ (g : Graph) (set candidates base : ℕ → Bool) where
  pub extended-begin : base ≡ extended g set candidates base 0
  unfolding extended
  extended-begin = refl

  -- a candidate that isn't spanned comes in
  pub extended-in : (k n : ℕ)
      → n ≡ suc k
      → candidates k ≡ true
      → spans_in g (either set (extended g set candidates base k)) k ≡ false
      → plus (extended g set candidates base k) k ≡ extended g set candidates base n
  unfolding extended with_candidate
  extended-in k n e on out = rw e (rw (on, out) refl)

  -- what is spanned, or is no candidate, stays out
  pub extended-out : (k n : ℕ)
      → n ≡ suc k
      → (candidates k ≡ true
      → spans_in g (either set (extended g set candidates base k)) k ≡ true)
      → extended g set candidates base k ≡ extended g set candidates base n
  unfolding extended with_candidate
  extended-out k n e out = rw e (elim (cases_Bool (candidates k)) [
    | inl on ↦ rw (on, out on) refl
    | inr off ↦ rw off refl
  ])
