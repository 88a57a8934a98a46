use Rattle.std.proofs.Common.{◌≡◌, ◌<◌, ℕ, true}
use Rattle.std.specs.FinSet.{contains}
use Rattle.pg_gf2.specs.Vectors.{vector_spans}
use Rattle.pg_gf2.proofs.sums.spans_all.Given as goal

abbrev pub invariant-loop-k : goal.invariant-loop-k
invariant-loop-k l = (f : ℕ) → f < l.k
    → contains l.wanted f ≡ true
    → vector_spans l.vectors (contains l.set) f ≡ true
