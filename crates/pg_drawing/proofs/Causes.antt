-- What can end work on what was read, and what a failed call comes from.
use Rattle.std.proofs.Common.{◌≡◌, Result, Ok, Err, IfErr}
use Rattle.pg_drawing.proofs.Common.{HaltCauses, IsInnerHalt, IsReadHalt, Memory, Read, Refused}
use Rattle.pg_drawing.proofs.Common.{Stopped, Write, Halt}
use Rattle.pg_io.specs.Causes.{Faults}
use Rattle.pg_drawing.specs.declared.picturing.Telling.{Telling}

-- what can end work on what was read can end reading it
pub inner_read : (r : Result Telling Halt) → IfErr r IsInnerHalt → IfErr r IsReadHalt
inner_read (Ok told) inner = tt
inner_read (Err (Refused refusal)) inner = inner
inner_read (Err (Stopped Read)) inner = absurd inner
inner_read (Err (Stopped Write)) inner = absurd inner
inner_read (Err (Stopped Memory)) inner = tt

-- work that only takes memory
pub inner_caused : (absent : Type 0) (before now : Faults) (r : Result Telling Halt)
    → IfErr r IsInnerHalt
    → now ≡ before
    → HaltCauses absent before now r
inner_caused absent before now (Ok told) inner calm = calm
inner_caused absent before now (Err (Refused refusal)) inner calm = calm
inner_caused absent before now (Err (Stopped Read)) inner calm = absurd inner
inner_caused absent before now (Err (Stopped Write)) inner calm = absurd inner
inner_caused absent before now (Err (Stopped Memory)) inner calm = calm
