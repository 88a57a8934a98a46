use Rattle.pg_match.specs.Cache.{Fits}
use Rattle.test_rows.proofs.asking.cached.Given as goal

abbrev pub invariant-loop-ask : goal.invariant-loop-ask
invariant-loop-ask l = Fits l.cache l.lines
