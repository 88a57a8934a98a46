-- What ends work on one object before it is done, and by which numbers of faults it shows.
use Rattle.std.specs.Prelude.{◌≡◌, ◌⊎◌, Result, Ok, Err}
use Rattle.pg_io.specs.declared.stop.Stop.{Stop}
use Rattle.pg_io.specs.declared.stop.Stop.TheVariants.{Read, Write, Memory}
use Rattle.pg_io.specs.Causes.{Faults, Rose}

-- a failed read shows by its number, or has the other cause given; a failed write shows by its
-- number; want of memory leaves both
abbrev pub StopCauses : Type 0 → Faults → Faults → Stop → Type 0
StopCauses absent before now Read = Rose before.reads now.reads ⊎ absent
StopCauses absent before now Write = Rose before.writes now.writes
StopCauses absent before now Memory = now ≡ before

-- work that is done leaves both numbers, and what ends it has its cause
abbrev pub Causes : {T : Type 0} → Type 0 → Faults → Faults → Result T Stop → Type 0
Causes absent before now (Ok _) = now ≡ before
Causes absent before now (Err stop) = StopCauses absent before now stop
