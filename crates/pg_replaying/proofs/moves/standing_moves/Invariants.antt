use Rattle.std.proofs.Common.{◌≡◌, take}
use Rattle.pg_record.specs.Replay.{standing}
use Rattle.pg_replaying.proofs.moves.standing_moves.Given as goal

abbrev pub invariant-loop-i : goal.invariant-loop-i
invariant-loop-i l = l.moves.items ≡ take l.i (standing l.session.events)
