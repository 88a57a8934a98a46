use Rattle.std.proofs.Common.{◌≡◌}
use Rattle.pg_patterns.specs.Known.{limits_of}
use Rattle.pg_zones.proofs.finder.Finder.descend.Given as goal

abbrev pub invariant-loop-step : goal.invariant-loop-step
invariant-loop-step g l = limits_of l.self.known ≡ limits_of l.fn.self.known
