use Rattle.std.proofs.Common.{◌≡◌, length}
use Rattle.pg_unfold.specs.Marks.{copies_below}
use Rattle.pg_unfold.proofs.room.count_kept.Given as goal

abbrev pub invariant-loop-key : goal.invariant-loop-key
invariant-loop-key l = l.count ≡ length (copies_below l.nodes l.marks l.key)
