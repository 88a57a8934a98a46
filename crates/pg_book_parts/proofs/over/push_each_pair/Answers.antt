use Rattle.std.specs.Prelude.{slice_get}
use Rattle.pg_gen.proofs.Boards.{flat_next}
use Rattle.pg_book_parts.specs.Pictures.{pair_by}
use Rattle.pg_book_parts.proofs.over.push_each_pair.Goals as goal

pub loop-i-preserved : goal.loop-i-preserved
loop-i-preserved c =
    flat_next (λ i. pair_by c.args.layout.now c.args.side c.args.page.now i
    (slice_get c.args.pairs.now i)) c.loop-i.i c.args.pieces.now.items _ _
    (rw (← c.pair_at.ensures) c.in_ok-push_pair_by.ensures) c.loop-i.invariant
