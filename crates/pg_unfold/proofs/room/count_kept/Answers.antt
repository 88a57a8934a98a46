use Rattle.std.proofs.Common.{arith}
use Rattle.pg_unfold.proofs.Placing.{below-length}
use Rattle.pg_unfold.proofs.room.count_kept.Goals as goal

pub overflow_add-count : goal.overflow_add-count
overflow_add-count c =
    let less = below-length c.args.nodes.now c.args.marks.now c.loop-key.key in
    omega (
      arith,
      less,
      c.loop-key.invariant,
      c.loop-key-test.true,
      c.requires.whole,
      c.requires.few,
    )
