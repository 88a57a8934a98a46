use Rattle.std.proofs.Common.{◌+◌, arith, get_or, refl}
use Rattle.pg_scene.proofs.Growing.{numbered_next}
use Rattle.pg_scene.specs.Items.{step_item}
use Rattle.pg_scene.proofs.numbers.put_steps.Goals as goal

pub loop-i-preserved : goal.loop-i-preserved
loop-i-preserved c = numbered_next (step_item c.args.n) 1 c.args.points.now c.loop-i.i
    (c.loop-i.i + 1) 0 (get_or c.args.points.now c.loop-i.i 0) c.args.items.now.items _ _
    (omega arith) refl (omega arith) c.in_ok-put_step.ensures c.loop-i.invariant
