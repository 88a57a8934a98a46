use Rattle.std.proofs.Common.{◌≡◌, ℕ, ◌<◌, get_or}
use Rattle.pg_base.proofs.RowLemmas.{cleared}
use Rattle.pg_base.proofs.point_set.PointSet.is_subset.Given as goal

abbrev pub invariant-loop-row : goal.invariant-loop-row
invariant-loop-row l = (i : ℕ) → i < l.row → cleared (get_or l.mine i 0) (get_or l.theirs i 0) ≡ 0
