use Rattle.std.proofs.Common.{length}
use Rattle.pg_cert_files.specs.Shortening.{EndsInPairs}
use Rattle.pg_cert_files.proofs.shortening.behind_pairs.Given as goal

abbrev pub invariant-loop-pair : goal.invariant-loop-pair
invariant-loop-pair l = EndsInPairs l.text l.rest

abbrev pub decreases-loop-pair : goal.decreases-loop-pair
decreases-loop-pair l = length l.rest
