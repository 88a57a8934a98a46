use Rattle.std.proofs.Common.{◌≡◌, ◌++◌, take}
use Rattle.std.specs.List.{flat_map}
use Rattle.pg_family_book.specs.Leaves.{entry_pieces}
use Rattle.pg_family_book.proofs.printing.push_entries.Given as goal

abbrev pub invariant-loop-leaf : goal.invariant-loop-leaf
invariant-loop-leaf l = l.pieces.items
    ≡ l.fn.pieces.items ++ flat_map entry_pieces (take l.leaf-index l.leaves)
