use Rattle.pg_exchange.specs.Stars.{AreStars}
use Rattle.pg_exchange.proofs.stars.fill.Given as goal

abbrev pub invariant-loop-k : goal.invariant-loop-k
invariant-loop-k l = AreStars l.g l.names l.k l.stars
