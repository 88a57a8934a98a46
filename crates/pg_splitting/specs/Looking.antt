-- Files that need not be there, and by which numbers of faults it shows that one was read.
use Rattle.std.specs.Prelude.{◌⊎◌, ℕ, Option, Some, None, Result, Ok, Err}
use Rattle.std.specs.Global.{Vec}
use Rattle.pg_io.specs.Causes.{Faults, IsLater, Rose}
use Rattle.pg_io.specs.Files.{Bytes, FilesTold, IsAbsent}
use Rattle.pg_io.specs.Reading.{IsFile}
use Rattle.pg_io.specs.declared.stop.Stop.{Stop}
use Rattle.pg_io.specs.declared.stop.Stop.TheVariants.{Memory, Read, Write}

-- the name is known not to be held, or a call that reads has failed
abbrev pub IsMissing : FilesTold → FilesTold → Bytes → Type 0
IsMissing files files' name =
    IsAbsent files.held name ⊎ Rose files.faults.reads files'.faults.reads

-- these bytes of the name were read, or it couldn't be opened
abbrev pub IsFoundAt : FilesTold → FilesTold → Bytes → ℕ → Option (Vec ℕ) → Type 0
IsFoundAt files files' name limit None = IsMissing files files' name
IsFoundAt files files' name limit (Some bytes) = IsFile files.held name limit bytes.items

-- by which numbers it shows what stopped the work
abbrev pub LookStops : Faults → Faults → Stop → Type 0
LookStops before now Read = Rose before.reads now.reads
LookStops before now Write = Rose before.writes now.writes
LookStops before now Memory = IsLater before now

-- a file that can't be opened counts as missing, so work that is done may raise the numbers
abbrev pub LookCauses : {T : Type 0} → Faults → Faults → Result T Stop → Type 0
LookCauses before now (Ok x) = IsLater before now
LookCauses before now (Err stop) = LookStops before now stop
