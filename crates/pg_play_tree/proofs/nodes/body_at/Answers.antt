use Rattle.std.proofs.Common.{arith}
use Rattle.pg_game.proofs.Limits.{point_count-le}
use Rattle.pg_play_tree.proofs.nodes.body_at.Goals as goal

pub child_after-child-requires-clause-point : goal.child_after-child-requires-clause-point
child_after-child-requires-clause-point c =
    let few = point_count-le c.args.game.now in
    let low = rw c.in-Own.is at c.requires.point in
    omega (arith, few, low)

pub returns-in-Own-clause-limits : goal.returns-in-Own-clause-limits
returns-in-Own-clause-limits c =
    let few = point_count-le c.args.game.now in
    let low = rw c.in-Own.is at c.requires.point in
    (omega (arith, few, low), c.child_after-child.ensures)
