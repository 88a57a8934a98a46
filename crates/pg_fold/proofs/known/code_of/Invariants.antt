use Rattle.std.proofs.Common.{◌≡◌}
use Rattle.pg_fold.specs.Codes.{code_by}
use Rattle.pg_fold.proofs.known.code_of.Given as goal

abbrev pub invariant-loop-row : goal.invariant-loop-row
invariant-loop-row l = l.code ≡ code_by l.row l.p
