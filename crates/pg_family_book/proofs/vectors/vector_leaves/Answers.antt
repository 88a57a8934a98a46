use Rattle.std.proofs.Common.{[]}
use Rattle.std.specs.Prelude.{slice_get}
use Rattle.pg_gen.proofs.Boards.{flat_next}
use Rattle.pg_family_book.specs.Vectors.{vector_by}
use Rattle.pg_family_book.proofs.vectors.vector_leaves.Goals as goal

pub loop-number-preserved : goal.loop-number-preserved
loop-number-preserved c = flat_next
    (λ i. vector_by c.args.g.now i (slice_get c.args.claims.now i))
    c.loop-number.number [] _ _ c.in_ok-put_leaf.ensures c.loop-number.invariant
