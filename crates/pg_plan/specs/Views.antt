-- The values of the code, without where they lie in memory.
use Rattle.std.specs.Prelude.{ℕ}
use Rattle.pg_plan.specs.declared.fault.Fault.{Fault}
use Rattle.pg_plan.specs.declared.fault.Fault.TheVariants as faults

-- the number that a fault is told by
abbrev pub number_of : Fault → ℕ
number_of faults.Size = 1
number_of faults.Header = 2
number_of faults.Form = 3
number_of faults.Number = 4
number_of faults.Order = 5
number_of faults.Limit = 6
