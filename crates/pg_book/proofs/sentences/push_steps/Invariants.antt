use Rattle.std.proofs.Common.{◌≡◌, ◌++◌}
use Rattle.std.specs.Prelude.{slice_get}
use Rattle.std.specs.List.{flat_map, range_with_len}
use Rattle.pg_book.specs.Sentences.{step_by}
use Rattle.pg_book.proofs.sentences.push_steps.Given as goal

abbrev pub invariant-loop-i : goal.invariant-loop-i
invariant-loop-i l = l.pieces.items
    ≡ l.fn.pieces.items
    ++ flat_map (λ i. step_by l.layout l.side i (slice_get l.points i)) (range_with_len 0 l.i)
