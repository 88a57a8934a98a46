-- The values of the code, without where they lie in memory.
use Rattle.std.specs.Prelude.{ℕ}
use Rattle.pg_record.specs.declared.event.Event.{Event}
use Rattle.pg_record.specs.declared.event.Event.TheVariants.{Play, Back}
use Rattle.pg_record.specs.declared.fault.Fault.{Fault}
use Rattle.pg_record.specs.declared.fault.Fault.TheVariants as faults
use Rattle.pg_record.specs.declared.line.Said.{Said}
use Rattle.pg_record.specs.declared.line.Said.TheVariants as said

-- the event that a line says
abbrev pub event_said : Said → Event
event_said (said.Move v) = Play v
event_said said.Back = Back

-- the number that a fault is told by
abbrev pub number_of : Fault → ℕ
number_of faults.Size = 1
number_of faults.Header = 2
number_of faults.Form = 3
number_of faults.Number = 4
number_of faults.Move = 5
number_of faults.Nothing = 6
number_of faults.Limit = 7
