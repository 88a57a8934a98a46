use Rattle.pg_cert_lines.specs.Numerals.{BeginsWith}
use Rattle.std.proofs.Common.{◌-◌}
use Rattle.pg_cert_lines.proofs.numerals.digits_of.Given as goal

abbrev pub invariant-loop-count : goal.invariant-loop-count
invariant-loop-count l = BeginsWith l.text l.count l.value

abbrev pub decreases-loop-count : goal.decreases-loop-count
decreases-loop-count l = l.most - l.count
