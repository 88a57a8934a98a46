use Rattle.std.proofs.Common.{◌∙◌, sym, ap, true, subst}
use Rattle.std.specs.Prelude.{nat_lt}
use Rattle.pg_span.proofs.Common.{contains, lt-ltb, edge_count, Room, IsMadeFor}
use Rattle.pg_span.proofs.Connects.{connects-same}
use Rattle.pg_span.proofs.judge.SpanJudge.new.Goals as goal

pub returns : goal.returns
returns c =
    let g = c.args.g.now in
    record {
      made = subst (λ (r : Room). IsMadeFor r g.graph)
          (sym c.joins_each-whole.ensures.kept) c.in_ok-joiner.ensures;
      whole = c.joins_each-whole.ensures.joins
          ∙ connects-same g.graph (contains c.all_below.result) (λ _. true)
          (λ z l. c.all_below.ensures z
          ∙ (ap (nat_lt z) c.edge_count.ensures ∙ lt-ltb z (edge_count g.graph) l));
    }
