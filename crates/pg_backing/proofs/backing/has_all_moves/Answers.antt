use Rattle.pg_backing.proofs.Known.{moves_all}
use Rattle.pg_backing.proofs.backing.has_all_moves.Goals as goal

pub returns : goal.returns
returns c = moves_all c.args.game.now c.args.position.now c.args.steps.now c.free_points-free.result
    c.points_of.result c.is_subset.result c.free_points-free.ensures.members c.points_of.ensures
    c.is_subset.ensures.0 c.is_subset.ensures.1
