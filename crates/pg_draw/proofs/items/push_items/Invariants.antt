use Rattle.std.proofs.Common.{◌≡◌, ◌++◌, take}
use Rattle.std.specs.List.{flat_map}
use Rattle.pg_draw.specs.Shapes.{item_shapes}
use Rattle.pg_draw.proofs.items.push_items.Given as goal

abbrev pub invariant-loop-item : goal.invariant-loop-item
invariant-loop-item l = l.shapes.items
    ≡ l.fn.shapes.items
    ++ flat_map (item_shapes l.numbers l.board l.courses) (take l.item-index l.items)
