use Rattle.pg_leaf.proofs.Foreseeing.{base-fits}
use Rattle.pg_leaf.proofs.ahead.Ahead.look.Goals as goal

pub full_weight-requires : goal.full_weight-requires
full_weight-requires c =
    base-fits c.game-g.result.now c.game-g.result.now.kind c.base_for-base.result
    c.base_for-base.ensures
