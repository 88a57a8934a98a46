use Rattle.std.proofs.Common.{◌≡◌, take}
use Rattle.std.specs.List.{All}
use Rattle.pg_split.specs.Splits.{IsSaid}
use Rattle.pg_split.proofs.checking.are_said.Given as goal

abbrev pub invariant-loop-piece : goal.invariant-loop-piece
invariant-loop-piece l = record {
  counted : l.i ≡ l.piece-index;
  are : All (IsSaid l.positions l.plan) (take l.piece-index l.pieces);
}
