use Rattle.std.proofs.Common.{◌≡◌, ℕ, ltb}
use Rattle.std.specs.FinSet.{contains}
use Rattle.pg_base.proofs.point_set.PointSet.all_below.Given as goal

abbrev pub invariant-loop-v : goal.invariant-loop-v
invariant-loop-v l = (q : ℕ) → contains l.set q ≡ ltb q l.v
