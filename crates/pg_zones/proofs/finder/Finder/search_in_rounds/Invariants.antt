use Rattle.std.proofs.Common.{◌≡◌}
use Rattle.pg_patterns.specs.Known.{limits_of}
use Rattle.pg_zones.proofs.finder.Finder.search_in_rounds.Given as goal

abbrev pub invariant-loop-round : goal.invariant-loop-round
invariant-loop-round g l = limits_of l.self.known ≡ limits_of l.fn.self.known
