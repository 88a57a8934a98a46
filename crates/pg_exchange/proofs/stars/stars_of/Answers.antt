use Rattle.std.proofs.Common.{◌∙◌}
use Rattle.pg_exchange.proofs.StarLemmas.{AreStars-begin}
use Rattle.pg_exchange.proofs.stars.stars_of.Goals as goal

pub fill-requires-clause-begun : goal.fill-requires-clause-begun
fill-requires-clause-begun c = AreStars-begin c.args.g.now c.args.names.now
    c.as_mut_slice.result.now (c.as_mut_slice.ensures.value ∙ c.in_ok-stars.ensures)
