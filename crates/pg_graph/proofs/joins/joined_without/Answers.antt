use Rattle.std.proofs.Common.{◌≡◌, ◌↔◌, sym, ◌∙◌, ap, subst, IsTrue, suc}
use Rattle.pg_graph.proofs.Common.{contains, minus, IsBelow, contains-remove_minus, minus_parts}
use Rattle.pg_graph.specs.Graph.{IsJoinedIn, edge_count}
use Rattle.pg_graph.proofs.joins.joined_without.Goals as goal

pub joined-requires-clause-set : goal.joined-requires-clause-set
joined-requires-clause-set c =
    let without : contains c.take.new.self ≡ minus (contains c.args.set.now) c.args.k =
    ap contains c.take.ensures ∙ contains-remove_minus c.args.set.now c.args.k in
    subst (λ set. IsBelow set (suc (edge_count c.args.g.now))) (sym without)
    (λ z h. c.requires.set z (minus_parts (contains c.args.set.now) c.args.k z h).0)

pub returns : goal.returns
returns c =
    let without : contains c.take.new.self ≡ minus (contains c.args.set.now) c.args.k =
    ap contains c.take.ensures ∙ contains-remove_minus c.args.set.now c.args.k in
    subst (λ set. IsTrue c.joined.result ↔ IsJoinedIn c.args.g.now set c.args.u c.args.v) without
    c.joined.ensures
