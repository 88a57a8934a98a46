use Rattle.std.proofs.Common.{◌≡◌, ◌++◌, take}
use Rattle.pg_scene.specs.Items.{numbered}
use Rattle.pg_scene.specs.SpanScenes.{part_item}
use Rattle.pg_scene.proofs.span_bodies.put_parts.Given as goal

abbrev pub invariant-loop-i : goal.invariant-loop-i
invariant-loop-i l =
    l.items.items ≡ l.fn.items.items ++ numbered (part_item l.n) 0 (take l.i l.parts)
