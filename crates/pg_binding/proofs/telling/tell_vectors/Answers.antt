use Rattle.std.proofs.Common.{Err, ap}
use Rattle.pg_binding.proofs.Common.{vector_book_text}
use Rattle.pg_binding.proofs.Found.{vectors_due, vectors_rejected, whole_done, whole_halts}
use Rattle.pg_gf2.specs.declared.flaw.VecFault.{VecFault}
use Rattle.pg_binding.proofs.telling.tell_vectors.Goals as goal

pub returns-in-Ok-clause-found : goal.returns-in-Ok-clause-found
returns-in-Ok-clause-found c = vectors_due c.args.game.now c.args.cert.now c.in-Ok.ensures.valid
    c.whole_vector_book.result c.whole_vector_book.ensures

pub returns-in-Ok-clause-status : goal.returns-in-Ok-clause-status
returns-in-Ok-clause-status c = whole_done (vector_book_text c.args.game.now c.args.cert.now)
    c.whole_vector_book.result c.whole_vector_book.ensures

pub returns-in-Ok-clause-halts : goal.returns-in-Ok-clause-halts
returns-in-Ok-clause-halts c = whole_halts (vector_book_text c.args.game.now c.args.cert.now)
    c.whole_vector_book.result c.whole_vector_book.ensures

pub returns-in-Err-Reject-clause-found : goal.returns-in-Err-Reject-clause-found
returns-in-Err-Reject-clause-found c =
    let fault = c.in-Err-Reject.ensures.reject c.in-Err-Reject.claim c.in-Err-Reject.node
    c.in-Err-Reject.why (ap (λ (f : VecFault). Err f) c.in-Err-Reject.field-0-is) in
    rw (
      c.in-Err-Reject.claim-is,
      c.in-Err-Reject.node-is,
      c.number.ensures,
      c.in-Err-Reject.why-is,
    )
    (vectors_rejected c.args.game.now c.args.cert.now c.in-Err-Reject.claim c.in-Err-Reject.node
    c.in-Err-Reject.why fault)
