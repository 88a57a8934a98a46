use Rattle.std.proofs.Common.{Err, ap}
use Rattle.pg_binding.proofs.Common.{span_book_text}
use Rattle.pg_binding.proofs.Found.{span_due, span_rejected, whole_done, whole_halts}
use Rattle.pg_span.specs.declared.check.SpanFault.{SpanFault}
use Rattle.pg_binding.proofs.telling.tell_span.Goals as goal

pub returns-in-Ok-clause-found : goal.returns-in-Ok-clause-found
returns-in-Ok-clause-found c = span_due c.args.game.now c.args.cert.now c.in-Ok.ensures.valid
    c.whole_span_book.result c.whole_span_book.ensures

pub returns-in-Ok-clause-status : goal.returns-in-Ok-clause-status
returns-in-Ok-clause-status c = whole_done (span_book_text c.args.game.now c.args.cert.now)
    c.whole_span_book.result c.whole_span_book.ensures

pub returns-in-Ok-clause-halts : goal.returns-in-Ok-clause-halts
returns-in-Ok-clause-halts c = whole_halts (span_book_text c.args.game.now c.args.cert.now)
    c.whole_span_book.result c.whole_span_book.ensures

pub returns-in-Err-Reject-clause-found : goal.returns-in-Err-Reject-clause-found
returns-in-Err-Reject-clause-found c =
    let fault = c.in-Err-Reject.ensures.reject c.in-Err-Reject.claim c.in-Err-Reject.why
    (ap (λ (f : SpanFault). Err f) c.in-Err-Reject.field-0-is) in
    rw (c.in-Err-Reject.claim-is, c.number.ensures, c.in-Err-Reject.why-is)
    (span_rejected c.args.game.now c.args.cert.now c.in-Err-Reject.claim c.in-Err-Reject.why fault)
