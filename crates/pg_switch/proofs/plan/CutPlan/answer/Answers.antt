use Rattle.pg_switch.proofs.Common.{Y}
use Rattle.pg_switch.proofs.PlanLaws.{plan-claim, plan-rule, plan-leaves}
use Rattle.pg_switch.proofs.plan.CutPlan.answer.Goals as goal

pub without_both-self-requires-clause-claimed : goal.without_both-self-requires-clause-claimed
without_both-self-requires-clause-claimed c =
    (plan-claim Y c.args.g.now c.in-Graph.graph c.args.p.now c.args.self.now.first
    c.args.self.now.second c.args.last c.answered_edge-x.result c.cut_edge-edge.result c.in-Graph.is
    c.requires.turn c.requires.held c.answered_edge-x.ensures
    c.cut_edge-edge.ensures.edge).few

pub without_both-self-requires-in-Graph-clause-claimed :
    goal.without_both-self-requires-in-Graph-clause-claimed
without_both-self-requires-in-Graph-clause-claimed c =
    (plan-claim Y c.args.g.now c.in-Graph.graph c.args.p.now c.args.self.now.first
    c.args.self.now.second c.args.last c.answered_edge-x.result c.cut_edge-edge.result c.in-Graph.is
    c.requires.turn c.requires.held c.answered_edge-x.ensures
    c.cut_edge-edge.ensures.edge).few

pub returns-clause-rule : goal.returns-clause-rule
returns-clause-rule c = plan-rule Y c.args.g.now.field c.in-Graph.graph c.args.p.now
    c.args.self.now.first c.args.self.now.second c.without_both-self.result
    c.without_both-self-in-Graph.result c.args.last c.answered_edge-x.result c.cut_edge-edge.result
    c.in-Graph.is c.answered_edge-x.ensures c.cut_edge-edge.ensures.edge c.without_both-self.ensures
    c.without_both-self-in-Graph.ensures

pub returns-clause-leaves : goal.returns-clause-leaves
returns-clause-leaves c = plan-leaves Y c.args.g.now c.in-Graph.graph c.args.p.now
    c.args.self.now.first c.args.self.now.second c.args.last c.answered_edge-x.result
    c.cut_edge-edge.result c.in-Graph.is c.requires.turn c.requires.held c.answered_edge-x.ensures
    c.cut_edge-edge.ensures.edge c.without_both-self.result c.without_both-self-in-Graph.result
    c.without_both-self.ensures c.without_both-self-in-Graph.ensures
