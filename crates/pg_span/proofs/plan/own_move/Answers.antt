use Rattle.std.proofs.Common.{◌∙◌, ap, ℕ, List}
use Rattle.pg_span.specs.Answers.{parts_edge}
use Rattle.pg_span.proofs.PlanLaws.{parts-own}
use Rattle.pg_span.proofs.plan.own_move.Goals as goal

pub returns-in-Parts-clause-own : goal.returns-in-Parts-clause-own
returns-in-Parts-clause-own c = parts-own c.args.graph.now c.args.p.now c.args.body.now c.args.trees
    c.in-Parts.numbers c.args.last c.parts_edge.result c.in-Parts.is (c.parts_edge.ensures
    ∙ ap (λ (ns : List ℕ). parts_edge c.args.graph.now c.args.p.now ns) c.as_slice.ensures)
