use Rattle.std.proofs.Common.{◌≡◌, ◌+◌, ◌-◌, ◌≤◌}
use Rattle.pg_playing.proofs.Common.{Course}
use Rattle.pg_playing.specs.Dialogue.{Allows, Shows, Steps, after_shown}
use Rattle.pg_playing.specs.declared.dialogue.TheConstants.{MAX_HEARD}
use Rattle.pg_playing.proofs.dialogue.play_to_the_end.Given as goal

-- so far: a log without a failed call
abbrev pub invariant-loop-ended : goal.invariant-loop-ended
invariant-loop-ended g l = record {
  course : Course (Steps (g.B.Bout.rules l.fn.bout))
      (g.C.Console.told l.fn.console) (g.C.Console.told l.console)
      (Shows (g.B.Bout.at l.fn.bout) 0) (after_shown l.ended (g.B.Bout.at l.bout) l.heard);
  shown : g.B.Bout.shown l.bout;
  room : MAX_HEARD ≤ g.B.Bout.room l.bout + l.heard;
  few : l.heard ≤ MAX_HEARD;
  allows : Allows (g.B.Bout.rules l.fn.bout) (g.B.Bout.rules l.bout);
  faults : (g.C.Console.told l.console).faults ≡ (g.C.Console.told l.fn.console).faults;
}

-- each line is one of those that may be heard
abbrev pub decreases-loop-ended : goal.decreases-loop-ended
decreases-loop-ended g l = MAX_HEARD - l.heard
