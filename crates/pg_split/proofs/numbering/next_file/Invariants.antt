use Rattle.std.proofs.Common.{take}
use Rattle.std.specs.List.{All}
use Rattle.pg_split.specs.Pieces.{IsFileBelow}
use Rattle.pg_split.proofs.numbering.next_file.Given as goal

abbrev pub invariant-loop-place : goal.invariant-loop-place
invariant-loop-place l = All (IsFileBelow l.next) (take l.place-index l.places)
