use Rattle.std.proofs.Common.{◌∙◌, ap, sym}
use Rattle.std.specs.FinSet.{contains}
use Rattle.pg_switch.proofs.Conditions.{insert_edges, left-without, left_set-edges, bridges_in-iff}
use Rattle.pg_switch.proofs.Conditions.{bridges_out-iff}
use Rattle.pg_switch.proofs.condition.bridges_other.Goals as goal

pub bridges_all-requires-clause-set : goal.bridges_all-requires-clause-set
bridges_all-requires-clause-set c =
    let h = c.args.graph.now in
    left_set-edges h c.args.p.now c.args.one.now c.without-left.result
    (left-without h c.args.p.now c.args.one.now c.edges_left.result c.without-left.result
    c.edges_left.ensures c.without-left.ensures.difference)

pub bridges_all-requires-else-has-clause-set : goal.bridges_all-requires-else-has-clause-set
bridges_all-requires-else-has-clause-set c =
    let h = c.args.graph.now in
    left_set-edges h c.args.p.now c.args.one.now c.without-left.result
    (left-without h c.args.p.now c.args.one.now c.edges_left.result c.without-left.result
    c.edges_left.ensures c.without-left.ensures.difference)

pub bridges_all-requires-else-has-clause-members : goal.bridges_all-requires-else-has-clause-members
bridges_all-requires-else-has-clause-members c =
    insert_edges c.args.graph.now c.args.other.now c.with_e.result c.requires.other c.with_e.ensures

pub returns-then-has-clause-bridges : goal.returns-then-has-clause-bridges
returns-then-has-clause-bridges c =
    let h = c.args.graph.now in
    let one = c.args.one.now in
    let left = left-without h c.args.p.now one c.edges_left.result c.without-left.result
    c.edges_left.ensures c.without-left.ensures.difference in
    bridges_in-iff h c.args.p.now one c.args.other.now c.without-left.result c.bridges_all.result
    left (ap (contains one) (sym c.edge_count.ensures) ∙ sym c.has.ensures ∙ c.if-has.true)
    c.bridges_all.ensures.bridges

pub returns-else-has-clause-bridges : goal.returns-else-has-clause-bridges
returns-else-has-clause-bridges c =
    let h = c.args.graph.now in
    let one = c.args.one.now in
    let left = left-without h c.args.p.now one c.edges_left.result c.without-left.result
    c.edges_left.ensures c.without-left.ensures.difference in
    bridges_out-iff h c.args.p.now one c.args.other.now c.without-left.result c.with_e.result
    c.bridges_all-else-has.result left c.with_e.ensures
    (ap (contains one) (sym c.edge_count.ensures) ∙ sym c.has.ensures ∙ c.if-has.false)
    c.bridges_all-else-has.ensures.bridges
