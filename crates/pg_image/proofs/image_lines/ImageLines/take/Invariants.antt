use Rattle.std.proofs.Common.{length}
use Rattle.pg_image.proofs.LinesRead.{HasTaken}
use Rattle.pg_image.proofs.image_lines.ImageLines.take.Given as goal

abbrev pub invariant-loop-line : goal.invariant-loop-line
invariant-loop-line l = HasTaken l.fn.self l.self l.piece l.rest

abbrev pub decreases-loop-line : goal.decreases-loop-line
decreases-loop-line l = length l.rest
