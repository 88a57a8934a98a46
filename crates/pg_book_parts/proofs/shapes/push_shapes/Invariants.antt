use Rattle.std.proofs.Common.{◌≡◌, ◌++◌, take}
use Rattle.std.specs.List.{flat_map}
use Rattle.pg_book_parts.specs.Pictures.{shape_pieces}
use Rattle.pg_book_parts.proofs.shapes.push_shapes.Given as goal

abbrev pub invariant-loop-shape : goal.invariant-loop-shape
invariant-loop-shape l =
    l.pieces.items ≡ l.fn.pieces.items ++ flat_map shape_pieces (take l.shape-index l.shapes)
