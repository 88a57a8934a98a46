use Rattle.std.proofs.Common.{◌≡◌, ◌++◌, take}
use Rattle.std.specs.List.{flat_map}
use Rattle.pg_book.specs.Books.{line_pieces}
use Rattle.pg_book.proofs.sections.push_lines.Given as goal

abbrev pub invariant-loop-line : goal.invariant-loop-line
invariant-loop-line l =
    l.pieces.items ≡ l.fn.pieces.items ++ flat_map line_pieces (take l.line-index l.lines)
