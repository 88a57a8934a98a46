use Rattle.std.proofs.Common.{◌≡◌, ℕ, ◌<◌, get_or, bit_and}
use Rattle.pg_base.proofs.point_set.PointSet.shares_none.Given as goal

abbrev pub invariant-loop-row : goal.invariant-loop-row
invariant-loop-row l = (i : ℕ) → i < l.row → bit_and (get_or l.mine i 0) (get_or l.theirs i 0) ≡ 0
