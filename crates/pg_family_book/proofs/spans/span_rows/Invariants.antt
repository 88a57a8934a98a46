use Rattle.std.proofs.Common.{◌≡◌}
use Rattle.std.specs.Prelude.{slice_get}
use Rattle.std.specs.List.{flat_map, range_with_len}
use Rattle.pg_family_book.specs.Spans.{span_row_by}
use Rattle.pg_family_book.proofs.spans.span_rows.Given as goal

abbrev pub invariant-loop-edge : goal.invariant-loop-edge
invariant-loop-edge l = l.rows.items
    ≡ flat_map (λ v. span_row_by l.g l.body v (slice_get l.g.graph.ends v))
    (range_with_len 0 l.edge)
