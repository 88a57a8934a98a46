use Rattle.pg_split.proofs.Pieces.{AreBelow}
use Rattle.pg_split.proofs.numbering.give_files.Given as goal

abbrev pub invariant-loop-i : goal.invariant-loop-i
invariant-loop-i l = AreBelow l.game l.first l.next l.pieces.items
