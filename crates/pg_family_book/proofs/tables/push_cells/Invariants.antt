use Rattle.std.proofs.Common.{◌≡◌, ◌++◌, take}
use Rattle.std.specs.List.{flat_map}
use Rattle.pg_family_book.specs.Leaves.{cell_pieces}
use Rattle.pg_family_book.proofs.tables.push_cells.Given as goal

abbrev pub invariant-loop-cell : goal.invariant-loop-cell
invariant-loop-cell l = l.pieces.items
    ≡ l.fn.pieces.items ++ flat_map (cell_pieces l.tag) (take l.cell-index l.cells)
