use Rattle.std.proofs.Common.{◌≡◌, ◌++◌, take}
use Rattle.pg_scene.specs.Items.{numbered, pair_item}
use Rattle.pg_scene.proofs.numbers.put_pairs.Given as goal

abbrev pub invariant-loop-i : goal.invariant-loop-i
invariant-loop-i l =
    l.items.items ≡ l.fn.items.items ++ numbered (pair_item l.n) 0 (take l.i l.pairs)
