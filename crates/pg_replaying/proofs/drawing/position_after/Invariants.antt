use Rattle.std.proofs.Common.{◌≡◌, take}
use Rattle.pg_record.specs.Replay.{position_after}
use Rattle.pg_replaying.proofs.drawing.position_after.Given as goal

abbrev pub invariant-loop-v : goal.invariant-loop-v
invariant-loop-v l = l.position ≡ position_after l.fn.game (take l.v-index l.moves)
