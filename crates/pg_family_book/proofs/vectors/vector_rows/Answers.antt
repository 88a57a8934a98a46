use Rattle.std.proofs.Common.{[]}
use Rattle.std.specs.Prelude.{slice_get}
use Rattle.pg_gen.proofs.Boards.{flat_next}
use Rattle.pg_family_book.specs.Vectors.{vector_row_by}
use Rattle.pg_family_book.proofs.vectors.vector_rows.Goals as goal

pub loop-number-preserved : goal.loop-number-preserved
loop-number-preserved c =
    flat_next (λ v. vector_row_by c.args.g.now c.args.body.now v (slice_get c.args.g.now.vectors v))
    c.loop-number.number [] _ _ (rw (
      c.vector_at.ensures,
      c.as_slice-vectors.ensures,
    ) at c.in_ok-put_row_by.ensures) c.loop-number.invariant
