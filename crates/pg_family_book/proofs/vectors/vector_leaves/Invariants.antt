use Rattle.std.proofs.Common.{◌≡◌}
use Rattle.std.specs.Prelude.{slice_get}
use Rattle.std.specs.List.{flat_map, range_with_len}
use Rattle.pg_family_book.specs.Vectors.{vector_by}
use Rattle.pg_family_book.proofs.vectors.vector_leaves.Given as goal

abbrev pub invariant-loop-number : goal.invariant-loop-number
invariant-loop-number l = l.leaves.items
    ≡ flat_map (λ i. vector_by l.g i (slice_get l.claims i)) (range_with_len 0 l.number)
