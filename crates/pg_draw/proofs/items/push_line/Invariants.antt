use Rattle.std.proofs.Common.{◌≡◌, ◌++◌, drop}
use Rattle.pg_draw.specs.Shapes.{line_shapes, place_in, strokes_behind}
use Rattle.pg_draw.proofs.items.push_line.Given as goal

abbrev pub invariant-loop-point : goal.invariant-loop-point
invariant-loop-point l = l.shapes.items
    ++ strokes_behind (place_in l.board l.courses l.lane) l.from (drop l.point-index l.others)
    ≡ l.fn.shapes.items ++ line_shapes (place_in l.board l.courses l.lane) l.points
