use Rattle.std.proofs.Common.{◌≤◌, ℕ, subst, sym, arith}
use Rattle.pg_graph.specs.Graph.{edge_count}
use Rattle.pg_span.proofs.PlanLaws.{trees-bound, first-own, trees-own}
use Rattle.pg_span.proofs.plan.trees_move.Goals as goal

pub returns-in-Some-clause-own : goal.returns-in-Some-clause-own
returns-in-Some-clause-own c = first-own c.args.graph.now c.args.p.now c.args.trees.first
    c.args.trees.a1 c.args.trees.a2 c.args.last c.in-Some.edge c.in-Some.is

pub without_both-requires-clause-claimed : goal.without_both-requires-clause-claimed
without_both-requires-clause-claimed c =
    let low : c.short_edge-edge.result ≤ edge_count c.args.graph.now =
    subst (λ (y : ℕ). y ≤ edge_count c.args.graph.now) (sym c.short_edge-edge.ensures.edge)
    (trees-bound c.args.graph.now c.args.p.now c.args.trees.a1 c.args.trees.a2
    c.answered_edge-x.result) in
    let few = c.requires.graph.few_edges in
    omega (arith, low, few)

pub without_both-requires-2-clause-claimed : goal.without_both-requires-2-clause-claimed
without_both-requires-2-clause-claimed c =
    let low : c.short_edge-edge.result ≤ edge_count c.args.graph.now =
    subst (λ (y : ℕ). y ≤ edge_count c.args.graph.now) (sym c.short_edge-edge.ensures.edge)
    (trees-bound c.args.graph.now c.args.p.now c.args.trees.a1 c.args.trees.a2
    c.answered_edge-x.result) in
    let few = c.requires.graph.few_edges in
    omega (arith, low, few)

pub returns-clause-own : goal.returns-clause-own
returns-clause-own c = trees-own c.args.graph.now c.args.p.now c.args.trees.first c.args.trees.a1
    c.args.trees.a2 c.without_both.result c.without_both-2.result c.args.last
    c.answered_edge-x.result c.short_edge-edge.result c.in_default.is c.answered_edge-x.ensures
    c.short_edge-edge.ensures.edge c.without_both.ensures c.without_both-2.ensures
