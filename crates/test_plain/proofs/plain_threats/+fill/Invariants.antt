use Rattle.std.proofs.Common.{length, ◌-◌}
use Rattle.test_plain.proofs.plain_threats.+fill.Given as goal

abbrev pub decreases-fill : goal.decreases-fill
decreases-fill l = length l.points.now - l.at
