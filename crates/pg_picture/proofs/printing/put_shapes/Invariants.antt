use Rattle.std.proofs.Common.{◌≡◌, ◌++◌, string_bytes, take}
use Rattle.std.specs.List.{flat_map}
use Rattle.pg_picture.specs.Svg.{shape_text}
use Rattle.pg_picture.proofs.printing.put_shapes.Given as goal

abbrev pub invariant-loop-shape : goal.invariant-loop-shape
invariant-loop-shape l =
    string_bytes l.out ≡ string_bytes l.fn.out ++ flat_map shape_text (take l.shape-index l.shapes)
