-- The values of the code, without where they lie in memory.
use Rattle.std.specs.Prelude.{ℕ}
use Rattle.pg_layout.specs.declared.fault.Fault.{Fault}
use Rattle.pg_layout.specs.declared.fault.Fault.TheVariants as faults

-- the number that a fault is told by
abbrev pub number_of : Fault → ℕ
number_of faults.Size = 1
number_of faults.Form = 2
number_of faults.Point = 3
number_of faults.Twice = 4
number_of faults.Range = 5
number_of faults.Near = 6
number_of faults.Missing = 7
