use Rattle.std.proofs.Common.{◌-◌, length}
use Rattle.pg_game.specs.Game.{lines_of}
use Rattle.pg_board.specs.Near.{WalksNear, place_of}
use Rattle.pg_board.proofs.board.Board.near.Given as goal

abbrev pub invariant-loop-next : goal.invariant-loop-next
invariant-loop-next l = WalksNear l.self.game l.self.stand.position l.side l.next

abbrev pub decreases-loop-next : goal.decreases-loop-next
decreases-loop-next l =
    length (lines_of l.self.game) - place_of (length (lines_of l.self.game)) l.next
