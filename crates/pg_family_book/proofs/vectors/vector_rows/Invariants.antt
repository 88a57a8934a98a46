use Rattle.std.proofs.Common.{◌≡◌}
use Rattle.std.specs.Prelude.{slice_get}
use Rattle.std.specs.List.{flat_map, range_with_len}
use Rattle.pg_family_book.specs.Vectors.{vector_row_by}
use Rattle.pg_family_book.proofs.vectors.vector_rows.Given as goal

abbrev pub invariant-loop-number : goal.invariant-loop-number
invariant-loop-number l = l.rows.items
    ≡ flat_map (λ v. vector_row_by l.g l.body v (slice_get l.g.vectors v))
    (range_with_len 0 l.number)
