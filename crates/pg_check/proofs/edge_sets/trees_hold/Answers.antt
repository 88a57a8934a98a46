use Rattle.pg_check.proofs.NamedEdges.{with_e-below}
use Rattle.pg_check.proofs.edge_sets.trees_hold.Goals as goal

pub trees_hold-requires-clause-first : goal.trees_hold-requires-clause-first
trees_hold-requires-clause-first c =
    let edges = c.are_edge_sets.ensures.0 c.if-not-are_edge_sets.false in
    with_e-below c.args.g.now c.args.with_e c.args.first.now c.with_e_named.result
    c.with_e_named.ensures edges.0
