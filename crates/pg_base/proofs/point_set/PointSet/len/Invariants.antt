use Rattle.std.proofs.Common.{◌≡◌, ◌≤◌, ◌*◌}
use Rattle.std.specs.FinSet.{len}
use Rattle.pg_base.specs.Words.{members_below}
use Rattle.pg_base.proofs.point_set.PointSet.len.Given as goal

abbrev pub invariant-loop-word : goal.invariant-loop-word
invariant-loop-word l = record {
  counted : l.points ≡ len (members_below l.word-items (64 * l.word-index));
  bound : l.points ≤ 64 * l.word-index;
}
