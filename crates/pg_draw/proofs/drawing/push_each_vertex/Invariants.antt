use Rattle.std.proofs.Common.{◌≡◌, ◌++◌}
use Rattle.std.specs.List.{flat_map, range_with_len}
use Rattle.pg_draw.specs.Shapes.{vertex_shapes}
use Rattle.pg_draw.proofs.drawing.push_each_vertex.Given as goal

abbrev pub invariant-loop-vertex : goal.invariant-loop-vertex
invariant-loop-vertex l = l.shapes.items
    ≡ l.fn.shapes.items
    ++ flat_map (vertex_shapes l.numbers l.plan l.terminals) (range_with_len 0 l.vertex)
