use Rattle.std.proofs.Common.{length}
use Rattle.pg_cert_files.specs.Shortening.{HasMet}
use Rattle.pg_cert_files.proofs.shortening.behind_clash.Given as goal

abbrev pub invariant-loop-pair : goal.invariant-loop-pair
invariant-loop-pair l = HasMet l.text l.points l.rest

abbrev pub decreases-loop-pair : goal.decreases-loop-pair
decreases-loop-pair l = length l.rest
