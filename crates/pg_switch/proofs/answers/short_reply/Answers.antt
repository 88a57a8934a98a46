use Rattle.std.proofs.Common.{ℕ, Option, unwrap_or, ap, ap₂, ◌∙◌}
use Rattle.pg_switch.proofs.Common.{remove, find, range_with_len, is_free}
use Rattle.pg_switch.proofs.Replying.{remove_edges, joined-edges, short-found}
use Rattle.pg_switch.proofs.answers.short_reply.Goals as goal

pub crossing-found-requires-clause-sets : goal.crossing-found-requires-clause-sets
crossing-found-requires-clause-sets c = record {
  first_range = joined-edges c.args.graph.now c.args.p.now c.args.one.now c.without.result
      c.union-joined.result c.args.x c.requires.x_range c.requires.sets.first_range
      c.without.ensures c.union-joined.ensures.union;
  second_range = remove_edges c.args.graph.now c.args.other.now c.without-candidates.result
      c.edge_count.result c.requires.sets.second_range c.without-candidates.ensures;
}

pub returns-clause-reply : goal.returns-clause-reply
returns-clause-reply c =
    let h = c.args.graph.now in
    let others =
    c.without-candidates.ensures ∙ ap (λ (m : ℕ). remove c.args.other.now m) c.edge_count.ensures in
    let found = short-found h c.args.p.now c.args.one.now c.args.other.now c.without.result
    c.union-joined.result c.without-candidates.result c.args.x c.ends_of-u.result.0
    c.crossing-found.result c.requires.x_range c.requires.sets c.without.ensures
    c.union-joined.ensures.union others (ap (λ (q : ℕ × ℕ). q.0) c.ends_of-u.ensures.ends)
    c.crossing-found.ensures.lowest c.crossing-found.ensures.none in
    c.or_lowest.ensures
    ∙ ap₂ (λ (o : Option ℕ) (m : ℕ).
    unwrap_or o (unwrap_or (find (is_free c.args.p.now) (range_with_len 0 m)) 0)) found
    c.edge_count-2.ensures
