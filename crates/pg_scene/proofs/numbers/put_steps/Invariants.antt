use Rattle.std.proofs.Common.{◌≡◌, ◌++◌, take}
use Rattle.pg_scene.specs.Items.{numbered, step_item}
use Rattle.pg_scene.proofs.numbers.put_steps.Given as goal

abbrev pub invariant-loop-i : goal.invariant-loop-i
invariant-loop-i l =
    l.items.items ≡ l.fn.items.items ++ numbered (step_item l.n) 1 (take l.i l.points)
