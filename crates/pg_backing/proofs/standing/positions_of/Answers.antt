use Rattle.pg_backing.proofs.Placed.{gone_on}
use Rattle.pg_backing.proofs.standing.positions_of.Goals as goal

pub loop-done-preserved : goal.loop-done-preserved
loop-done-preserved c =
    gone_on c.args.game.now c.args.plan.now c.loop-done.done c.index-plan-i.result
    c.loop-done.positions.len c.loop-done.positions.items c.as_mut_slice-in-loop-done.result.now
    c.go_on.new.positions c.loop-done-test.true c.index-plan-i.is
    c.as_mut_slice-in-loop-done.ensures.value c.as_mut_slice-in-loop-done.ensures.len
    c.go_on.ensures c.loop-done.invariant
