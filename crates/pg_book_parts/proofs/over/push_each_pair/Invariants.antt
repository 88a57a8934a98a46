use Rattle.std.proofs.Common.{◌≡◌, ◌++◌}
use Rattle.std.specs.Prelude.{slice_get}
use Rattle.std.specs.List.{flat_map, range_with_len}
use Rattle.pg_book_parts.specs.Pictures.{pair_by}
use Rattle.pg_book_parts.proofs.over.push_each_pair.Given as goal

abbrev pub invariant-loop-i : goal.invariant-loop-i
invariant-loop-i l = l.pieces.items
    ≡ l.fn.pieces.items
    ++ flat_map (λ i. pair_by l.layout l.side l.page i (slice_get l.pairs i)) (range_with_len 0 l.i)
