use Rattle.std.proofs.Common.{◌≡◌, take}
use Rattle.pg_computer.proofs.Common.{position_after, standing}
use Rattle.pg_computer.specs.Points.{IsLastBelow}
use Rattle.pg_computer.proofs.points.last_reply.Given as goal

-- the last reply so far, and the position after so many points
abbrev pub invariant-loop-i : goal.invariant-loop-i
invariant-loop-i l = record {
  last : IsLastBelow l.side l.session.game l.session.events l.i l.last;
  place : l.position
      ≡ position_after l.session.game (take l.i (standing l.session.events));
}
