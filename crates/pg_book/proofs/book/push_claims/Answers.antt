use Rattle.std.proofs.Common.{length}
use Rattle.std.specs.Prelude.{slice_get}
use Rattle.pg_gen.proofs.Boards.{flat_next}
use Rattle.pg_book.specs.Books.{claim_by}
use Rattle.pg_book.proofs.book.push_claims.Goals as goal

pub loop-i-preserved : goal.loop-i-preserved
loop-i-preserved c =
    flat_next (λ i. claim_by c.args.g.now c.args.layout.now c.args.depth
    (length c.args.cert.now.claims) i (slice_get c.args.cert.now.claims i)) c.loop-i.i
    c.args.pieces.now.items _ _
    c.in_ok-push_claim_at.ensures c.loop-i.invariant
