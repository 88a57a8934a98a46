use Rattle.std.proofs.Common.{◌∙◌}
use Rattle.pg_game.proofs.Outcomes.{result-joining}
use Rattle.pg_game.proofs.judge.Judge.over.Goals as goal

pub returns-in-Some-clause-result : goal.returns-in-Some-clause-result
returns-in-Some-clause-result c = c.joining_result.ensures.result
    ∙ result-joining c.args.g.now c.args.p.now c.in-Graph.graph c.in-Graph.is
