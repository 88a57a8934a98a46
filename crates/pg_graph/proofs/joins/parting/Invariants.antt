use Rattle.std.proofs.Common.{◌≡◌, ℕ, ◌<◌, true}
use Rattle.std.specs.FinSet.{contains}
use Rattle.pg_graph.specs.Joiner.{Parts}
use Rattle.pg_graph.proofs.joins.parting.Given as goal

abbrev pub invariant-loop-k : goal.invariant-loop-k
invariant-loop-k l =
    (j : ℕ) → j < l.k → contains l.candidates j ≡ true → Parts l.g (contains l.set) l.u l.v j → ⊥
