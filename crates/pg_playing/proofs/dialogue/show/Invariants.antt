use Rattle.std.proofs.Common.{◌≡◌, ◌≤◌, ℕ}
use Rattle.pg_playing.proofs.Common.{Course}
use Rattle.pg_playing.specs.Dialogue.{Allows, Shows, Steps}
use Rattle.pg_playing.proofs.dialogue.show.Given as goal

-- so far: texts after which further ones come, without a failed call
abbrev pub invariant-loop-telling : goal.invariant-loop-telling
invariant-loop-telling g l = record {
  course : (heard : ℕ)
      → Course (Steps (g.B.Bout.rules l.fn.bout))
      (g.C.Console.told l.fn.console) (g.C.Console.told l.console)
      (Shows (g.B.Bout.at l.fn.bout) heard) (Shows (g.B.Bout.at l.bout) heard);
  moved : g.B.Bout.moved l.bout;
  room : g.B.Bout.room l.fn.bout ≤ g.B.Bout.room l.bout;
  allows : Allows (g.B.Bout.rules l.fn.bout) (g.B.Bout.rules l.bout);
  faults : (g.C.Console.told l.console).faults ≡ (g.C.Console.told l.fn.console).faults;
}

abbrev pub decreases-loop-telling : goal.decreases-loop-telling
decreases-loop-telling g l = g.B.Bout.owed l.bout
