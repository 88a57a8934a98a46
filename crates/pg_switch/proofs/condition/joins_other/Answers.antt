use Rattle.pg_switch.proofs.Conditions.{insert_edges, joins_other-iff}
use Rattle.pg_switch.proofs.condition.joins_other.Goals as goal

pub joins_all-requires-clause-members : goal.joins_all-requires-clause-members
joins_all-requires-clause-members c =
    insert_edges c.args.graph.now c.args.other.now c.with_e.result c.requires.other c.with_e.ensures

pub returns-clause-joins : goal.returns-clause-joins
returns-clause-joins c = joins_other-iff c.args.graph.now c.args.p.now c.args.one.now
    c.args.other.now c.union.result c.with_e.result c.joins_all.result c.union.ensures.union
    c.with_e.ensures c.joins_all.ensures.joins
