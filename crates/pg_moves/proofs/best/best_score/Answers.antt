use Rattle.std.proofs.Common.{◌∙◌}
use Rattle.pg_moves.proofs.Keeping.{best-tried}
use Rattle.pg_moves.proofs.best.best_score.Goals as goal

pub returns : goal.returns
returns c = c.best_of.ensures
    ∙ best-tried c.args.side c.args.trials.now c.any_has-x_wins.result c.any_has-draws.result
    c.any_has-y_wins.result c.any_has-x_wins.ensures c.any_has-draws.ensures
    c.any_has-y_wins.ensures
