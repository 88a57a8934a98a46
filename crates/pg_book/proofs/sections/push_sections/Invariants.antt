use Rattle.std.proofs.Common.{◌≡◌, ◌+◌, ◌++◌}
use Rattle.std.specs.List.{flat_map, range_with_len}
use Rattle.pg_book.specs.Books.{section_at}
use Rattle.pg_book.proofs.sections.push_sections.Given as goal

abbrev pub invariant-loop-i : goal.invariant-loop-i
invariant-loop-i l = l.pieces.items
    ≡ l.fn.pieces.items
    ++ flat_map (λ i. section_at l.g l.layout l.claim l.chapter (i + 1)) (range_with_len 0 l.i)
