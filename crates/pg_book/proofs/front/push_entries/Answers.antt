use Rattle.std.proofs.Common.{length}
use Rattle.std.specs.Prelude.{slice_get}
use Rattle.pg_gen.proofs.Boards.{flat_next}
use Rattle.pg_book.specs.Books.{entry_by}
use Rattle.pg_book.proofs.front.push_entries.Goals as goal

pub loop-i-preserved : goal.loop-i-preserved
loop-i-preserved c =
    flat_next (λ i. entry_by c.args.g.now c.args.depth (length c.args.claims.now) i
    (slice_get c.args.claims.now i)) c.loop-i.i c.args.pieces.now.items _ _
    c.in_ok-push_entry_at.ensures c.loop-i.invariant
