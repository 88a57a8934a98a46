use Rattle.std.proofs.Common.{ap, ◌∙◌}
use Rattle.std.proofs.lemmas.List.{get_or_default}
use Rattle.pg_exchange.proofs.Common.{FinSet, nat_cmp, empty, insert}
use Rattle.pg_exchange.proofs.StarLemmas.{star-put}
use Rattle.pg_exchange.proofs.stars.put_edge.Goals as goal

pub returns : goal.returns
returns c =
    let stars = c.args.stars.now in
    star-put stars c.args.p c.args.k c.put.new.self c.requires.label (c.put.ensures
    ∙ ap (λ (s : FinSet nat_cmp). insert s c.args.k)
    (get_or_default stars c.args.p c.index-stars-p.result empty c.requires.label))
