-- Members of sets that stay free while one element is taken.
use Rattle.std.proofs.Common.{◌≡◌, ℕ, Bool, true, false, sym, subst}
use Rattle.pg_graph.proofs.Common.{both_ways, minus, IsWithin, minus_parts, minus_from}

pub still_free : (a free : ℕ → Bool) (v : ℕ) → IsWithin a free → IsWithin (minus a v) (minus free v)
still_free a free v w z h = let p = minus_parts a v z h in minus_from free v z (w z p.0) p.1

pub still_free_without : (a free : ℕ → Bool) (v : ℕ)
    → IsWithin a free
    → a v ≡ false
    → IsWithin a (minus free v)
still_free_without a free v w out z h =
    minus_from free v z (w z h) (λ q. both_ways _ out (subst (λ k. a k ≡ true) (sym q) h))

pub free_again : (a free : ℕ → Bool) (v : ℕ)
    → IsWithin (minus a v) free
    → a v ≡ false
    → IsWithin a free
free_again a free v w out z h =
    w z (minus_from a v z h (λ q. both_ways _ out (subst (λ k. a k ≡ true) (sym q) h)))
