-- WHAT A PROGRAM RUNS ON.
use Rattle.std.specs.Prelude.{List, [], Some, None, false}
use Rattle.pg_io.specs.Causes.{faults}
use Rattle.pg_io.specs.Console.{ConsoleTold}
use Rattle.pg_io.specs.Files.{Bytes, FilesTold}
use Rattle.pg_io.specs.Memory.{held_by, told_by as told_by_files}
use Rattle.pg_io.specs.Terminal.{told_by as told_by_console}
use Rattle.pg_answering.specs.declared.machine.Machine.{Machine}

-- what is told of files and a console
pub record Told : Type 0 where
  pub files : FilesTold
  pub console : ConsoleTold

-- all that is told of a machine
abbrev pub told_by : Machine → Told
told_by m = record { files = told_by_files m.files; console = told_by_console m.console }

-- files of these names and bytes, of which none is open and none is being written
abbrev pub files_of : List (Bytes × Bytes) → FilesTold
files_of files = record {
  held = Some (held_by files);
  left = Some [];
  making = None;
  busy = false;
  faults = faults 0 0;
}

-- a console with this unread input, on which nothing is printed
abbrev pub console_of : Bytes → ConsoleTold
console_of input = record { left = Some input; log = Some []; faults = faults 0 0 }

-- a machine before a run
abbrev pub fresh : List (Bytes × Bytes) → Bytes → Told
fresh files input = record { files = files_of files; console = console_of input }
