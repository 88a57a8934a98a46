use Rattle.std.proofs.Common.{◌≡◌, take}
use Rattle.pg_splitting.specs.Texts.{depth_of}
use Rattle.pg_splitting.proofs.depth.depth_of.Given as goal

abbrev pub invariant-loop-piece : goal.invariant-loop-piece
invariant-loop-piece l = l.depth ≡ depth_of l.game (take l.piece-index l.pieces)
