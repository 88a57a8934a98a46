use Rattle.std.proofs.Common.{◌≡◌, ◌++◌, take}
use Rattle.std.specs.List.{flat_map}
use Rattle.pg_page.specs.declared.tag.Tag.TheVariants.{Td}
use Rattle.pg_family_book.specs.Leaves.{row_pieces}
use Rattle.pg_family_book.proofs.tables.push_rows.Given as goal

abbrev pub invariant-loop-row : goal.invariant-loop-row
invariant-loop-row l = l.pieces.items
    ≡ l.fn.pieces.items ++ flat_map (row_pieces Td) (take l.row-index l.rows)
