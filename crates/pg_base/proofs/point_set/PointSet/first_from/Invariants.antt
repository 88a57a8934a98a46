use Rattle.std.proofs.Common.{◌≡◌, ℕ, ◌<◌, ◌≤◌, ◌*◌, false}
use Rattle.std.specs.FinSet.{contains}
use Rattle.pg_base.proofs.point_set.PointSet.first_from.Given as goal

abbrev pub invariant-loop-row : goal.invariant-loop-row
invariant-loop-row l = (q : ℕ) → l.p ≤ q → q < 64 * l.row → contains l.self q ≡ false
