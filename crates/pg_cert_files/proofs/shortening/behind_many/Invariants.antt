use Rattle.pg_cert_files.specs.Shortening.{EndsInMany}
use Rattle.pg_cert_files.proofs.shortening.behind_many.Given as goal

abbrev pub invariant-loop-i : goal.invariant-loop-i
invariant-loop-i l = EndsInMany l.text l._i l.rest
