use Rattle.std.proofs.Common.{◌≡◌, ◌*◌, ◌≤◌, true}
use Rattle.pg_board.specs.Fits.{summed, entries_of}
use Rattle.pg_board.proofs.opening.whole_room.Given as goal

abbrev pub invariant-loop-v : goal.invariant-loop-v
invariant-loop-v l =
    (l.room ≡ summed (entries_of l.layout) (λ _. true) l.v) × (l.room ≤ 80002 * l.v)
