use Rattle.std.proofs.Common.{inl, inr}
use Rattle.pg_moves.proofs.Common.{IfOk-weaker}
use Rattle.pg_moves.specs.Trials.{IsWorthOnGraph, IsWorthOnLines}
use Rattle.pg_moves.specs.declared.trial.Worth.{Worth}
use Rattle.pg_moves.proofs.worth.worth_of.Goals as goal

pub returns-in-Switching-clause-worth : goal.returns-in-Switching-clause-worth
returns-in-Switching-clause-worth g c = IfOk-weaker _ _ _
    (λ (worth : Worth) (is : IsWorthOnGraph c.args.game.now worth). inl (c.in-Switching.is, is))
    c.worth_on_graph.ensures

pub returns-in_default-clause-worth : goal.returns-in_default-clause-worth
returns-in_default-clause-worth g c = IfOk-weaker _ _ _
    (λ (worth : Worth) (is : IsWorthOnLines (g.S.Finder.brings c.args.finder.now) c.args.budget
    c.args.game.now worth). inr (c.in_default.not-Switching, is)) c.worth_on_lines.ensures.worth
