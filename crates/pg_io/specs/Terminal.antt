-- A console in memory.
use Rattle.std.specs.Prelude.{drop, List, Some}
use Rattle.pg_io.specs.Causes.{faults}
use Rattle.pg_io.specs.Console.{ConsoleTold}
use Rattle.pg_io.specs.Files.{Bytes}
use Rattle.pg_io.specs.declared.entry.Entry.{Entry}
use Rattle.pg_io.specs.declared.mem_console.MemConsole.{MemConsole}

-- the unread input
abbrev pub left_in : MemConsole → Bytes
left_in m = drop m.from m.input

-- what was said and heard
abbrev pub log_in : MemConsole → List Entry
log_in m = m.log.items

-- all that is told of the console
abbrev pub told_by : MemConsole → ConsoleTold
told_by m = record {
  left = Some (left_in m);
  log = Some (log_in m);
  faults = faults m.reads m.writes;
}
