use Rattle.std.proofs.Common.{Err, ap, subst, sym}
use Rattle.std.proofs.lemmas.Result.{err_from_is_err_and}
use Rattle.pg_check.specs.declared.checked.CheckFault.{CheckFault}
use Rattle.pg_cert.specs.Limits.{IsWithinLimits}
use Rattle.pg_binding.proofs.Common.{Cert}
use Rattle.pg_evidence.proofs.Tracing.{stands_for, stood_fault}
use Rattle.pg_binding.proofs.Found.{book_due, rejected_due, same_shown, shown_done, shown_halts}
use Rattle.pg_binding.proofs.Found.{unmade_due}
use Rattle.pg_binding.proofs.telling.tell_evidence.Goals as goal

pub returns-in_err-standing-clause-found : goal.returns-in_err-standing-clause-found
returns-in_err-standing-clause-found c =
    let p = err_from_is_err_and c.from_residual.result c.from_residual.ensures.1 in
    rw (p.1, p.2)
    (unmade_due c.args.game.now c.args.evidence c.args.layout c.args.depth _
    c.in_err-standing.ensures.made)

pub shown_book-requires : goal.shown_book-requires
shown_book-requires c = subst (λ (cert : Cert). IsWithinLimits cert) (sym c.in-Ok.ensures.cert)
    c.in_ok-standing.ensures.traced.limits

pub returns-in-Ok-clause-found : goal.returns-in-Ok-clause-found
returns-in-Ok-clause-found c = book_due c.args.game.now c.args.evidence c.args.layout c.args.depth
    c.in_ok-standing.standing.cert
    (stands_for c.args.game.now c.args.evidence c.in_ok-standing.standing
    c.in_ok-standing.ensures.made)
    c.in-Ok.ensures.valid c.shown_book.result
    (same_shown c.args.game.now c.in-Ok.checked.game.now c.in_ok-standing.standing.cert
    c.in-Ok.checked.cert.now c.args.layout c.args.depth c.shown_book.result c.in-Ok.ensures.game
    c.in-Ok.ensures.cert c.shown_book.ensures)

pub returns-in-Ok-clause-status : goal.returns-in-Ok-clause-status
returns-in-Ok-clause-status c = shown_done c.in-Ok.checked.game.now c.in-Ok.checked.cert.now
    c.args.layout c.args.depth c.shown_book.result c.shown_book.ensures

pub returns-in-Ok-clause-halts : goal.returns-in-Ok-clause-halts
returns-in-Ok-clause-halts c = shown_halts c.in-Ok.checked.game.now c.in-Ok.checked.cert.now
    c.args.layout c.args.depth c.shown_book.result c.shown_book.ensures

pub returns-in-Err-Reject-clause-found : goal.returns-in-Err-Reject-clause-found
returns-in-Err-Reject-clause-found c =
    let fault = c.in-Err-Reject.ensures.reject c.in-Err-Reject.claim c.in-Err-Reject.node
    c.in-Err-Reject.why (ap (λ (f : CheckFault). Err f) c.in-Err-Reject.field-0-is) in
    rw (c.in-Err-Reject.why-is, c.in-Err-Reject.claim-is, c.in-Err-Reject.node-is)
    (rejected_due c.args.game.now c.args.evidence c.args.layout c.args.depth c.in-Err-Reject.claim
    c.in-Err-Reject.node c.in-Err-Reject.why
    (stood_fault c.args.game.now c.args.evidence c.in_ok-standing.standing c.in-Err-Reject.claim
    c.in-Err-Reject.node c.in-Err-Reject.why c.in_ok-standing.ensures.made fault))
