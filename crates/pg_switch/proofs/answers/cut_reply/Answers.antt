use Rattle.std.proofs.Common.{ℕ, Option, unwrap_or, ap, ap₂, ◌∙◌}
use Rattle.pg_switch.proofs.Common.{remove, find, range_with_len, is_free}
use Rattle.pg_switch.proofs.Conditions.{left-without, left_set-edges}
use Rattle.pg_switch.proofs.Replying.{remove_edges, cut-found}
use Rattle.pg_switch.proofs.answers.cut_reply.Goals as goal

pub parting-found-requires-clause-sets : goal.parting-found-requires-clause-sets
parting-found-requires-clause-sets c =
    let h = c.args.graph.now in
    record {
      first_range = left_set-edges h c.args.p.now c.args.one.now c.without-left.result
          (left-without h c.args.p.now c.args.one.now c.edges_left.result c.without-left.result
          c.edges_left.ensures c.without-left.ensures.difference);
      second_range = remove_edges h c.args.other.now c.without-candidates.result
          c.edge_count.result c.requires.other c.without-candidates.ensures;
    }

pub returns-clause-reply : goal.returns-clause-reply
returns-clause-reply c =
    let h = c.args.graph.now in
    let others =
    c.without-candidates.ensures ∙ ap (λ (m : ℕ). remove c.args.other.now m) c.edge_count.ensures in
    let left = left-without h c.args.p.now c.args.one.now c.edges_left.result c.without-left.result
    c.edges_left.ensures c.without-left.ensures.difference in
    let found = cut-found h c.args.p.now c.args.one.now c.args.other.now c.without-left.result
    c.without-candidates.result c.args.x c.ends_of-u.result.0 c.ends_of-u.result.1
    c.parting-found.result c.requires.other
    (left_set-edges h c.args.p.now c.args.one.now c.without-left.result left) left others
    (ap (λ (q : ℕ × ℕ). q.0) c.ends_of-u.ensures.ends)
    (ap (λ (q : ℕ × ℕ). q.1) c.ends_of-u.ensures.ends) c.parting-found.ensures.lowest
    c.parting-found.ensures.none in
    c.or_lowest.ensures
    ∙ ap₂ (λ (o : Option ℕ) (m : ℕ).
    unwrap_or o (unwrap_or (find (is_free c.args.p.now) (range_with_len 0 m)) 0)) found
    c.edge_count-2.ensures
