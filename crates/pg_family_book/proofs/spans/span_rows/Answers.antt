use Rattle.std.proofs.Common.{[]}
use Rattle.std.specs.Prelude.{slice_get}
use Rattle.pg_gen.proofs.Boards.{flat_next}
use Rattle.pg_family_book.specs.Spans.{span_row_by}
use Rattle.pg_family_book.proofs.spans.span_rows.Goals as goal

pub loop-edge-preserved : goal.loop-edge-preserved
loop-edge-preserved c = flat_next
    (λ v. span_row_by c.args.g.now c.args.body.now v (slice_get c.args.g.now.graph.ends v))
    c.loop-edge.edge [] _ _ (rw (
      c.ends_at.ensures,
      c.as_slice-ends.ensures,
    ) at c.in_ok-put_row_by.ensures) c.loop-edge.invariant
