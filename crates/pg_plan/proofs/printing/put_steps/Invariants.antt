use Rattle.std.proofs.Common.{◌≡◌, ◌++◌, take, map}
use Rattle.std.specs.Prelude.{string_bytes}
use Rattle.pg_plan.proofs.Common.{behind_spaces}
use Rattle.pg_plan.specs.Print.{step_word}
use Rattle.pg_plan.proofs.printing.put_steps.Given as goal

abbrev pub invariant-loop-step : goal.invariant-loop-step
invariant-loop-step l = string_bytes l.out
    ≡ string_bytes l.fn.out ++ behind_spaces (map step_word (take l.step-index l.steps))
