use Rattle.std.proofs.Common.{◌∙◌}
use Rattle.pg_game.proofs.Outcomes.{result-breaker, result-avoider, result-race}
use Rattle.pg_potential.proofs.masks.line_result.Goals as goal

pub returns-in-MakerBreaker : goal.returns-in-MakerBreaker
returns-in-MakerBreaker c =
    c.filling_result.ensures ∙ result-breaker c.args.g.now c.args.p.now c.in-MakerBreaker.is

pub returns-in-AvoiderEnforcer : goal.returns-in-AvoiderEnforcer
returns-in-AvoiderEnforcer c = c.filling_result-in-AvoiderEnforcer.ensures
    ∙ result-avoider c.args.g.now c.args.p.now c.in-AvoiderEnforcer.is

pub returns-in-MakerMaker : goal.returns-in-MakerMaker
returns-in-MakerMaker c =
    c.race_result.ensures ∙ result-race c.args.g.now c.args.p.now c.in-MakerMaker.is
