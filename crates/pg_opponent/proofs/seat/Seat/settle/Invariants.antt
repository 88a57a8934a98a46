use Rattle.std.proofs.Common.{◌≡◌, length}
use Rattle.pg_opponent.proofs.Common.{free_points}
use Rattle.pg_opponent.specs.Fits.{IsOn, Led}
use Rattle.pg_opponent.specs.Sitting.{sitting_of}
use Rattle.pg_opponent.proofs.seat.Seat.settle.Given as goal

-- the moves that were made so far are recorded
abbrev pub invariant-loop-made : goal.invariant-loop-made
invariant-loop-made l =
    IsOn l.fn.self.session.game l.fn.self.player.claim (sitting_of l.self)
    × Led (sitting_of l.fn.self) (sitting_of l.self)
    × (l.self.session.game ≡ l.fn.self.session.game)

-- each move leaves fewer points free
abbrev pub decreases-loop-made : goal.decreases-loop-made
decreases-loop-made l = length (free_points l.self.player.game l.self.player.position)
