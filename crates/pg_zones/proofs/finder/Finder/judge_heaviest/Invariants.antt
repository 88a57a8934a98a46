use Rattle.std.proofs.Common.{◌≡◌}
use Rattle.pg_patterns.specs.Known.{limits_of}
use Rattle.pg_zones.proofs.finder.Finder.judge_heaviest.Given as goal

abbrev pub invariant-loop-i : goal.invariant-loop-i
invariant-loop-i l = limits_of l.self.known ≡ limits_of l.fn.self.known
