use Rattle.std.proofs.Common.{take}
use Rattle.pg_unfold.specs.Gathered.{AreCounted}
use Rattle.pg_unfold.proofs.room.has_room.Given as goal

abbrev pub invariant-loop-claim : goal.invariant-loop-claim
invariant-loop-claim l = AreCounted (take l.claim-index l.claims) l.room
