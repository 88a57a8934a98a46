use Rattle.std.proofs.Common.{◌≤◌, [], vec_len}
use Rattle.std.specs.Prelude.{IfSome}
use Rattle.pg_split.specs.Pieces.{IsSplitOf}
use Rattle.pg_split.specs.declared.numbering.Split.{Split}
use Rattle.pg_split.specs.declared.splitting.TheConstants.{FIRST_FILE}
use Rattle.pg_split.proofs.splitting.split.Given as goal

abbrev pub invariant-loop-depth : goal.invariant-loop-depth
invariant-loop-depth l = record {
  split : IfSome l.best (IsSplitOf l.game [] FIRST_FILE);
  few : IfSome l.best (λ (split : Split). vec_len split.pieces ≤ l.most);
}
