use Rattle.std.proofs.Common.{length}
use Rattle.pg_game.specs.Game.{lines_of}
use Rattle.pg_threat.specs.Lacking.{IsScanTwice, left_to}
use Rattle.pg_threat.proofs.lacking.lacking.Given as goal

abbrev pub invariant-loop-next : goal.invariant-loop-next
invariant-loop-next l =
    IsScanTwice l.b.game l.b.stand.position l.side l.missing l.lacked.points l.lacked.twice l.next

abbrev pub decreases-loop-next : goal.decreases-loop-next
decreases-loop-next l = left_to (length (lines_of l.b.game)) l.next
