use Rattle.std.proofs.Common.{◌∙◌, List, Err, ap, map, subst}
use Rattle.pg_families.proofs.Common.{err_from_is_err_and, Grows, Said, IsSpanValid, SpanClaim}
use Rattle.pg_families.proofs.Common.{SpanFault, span_entry, IsCut}
use Rattle.pg_span.specs.Flaw.{flaw_number}
use Rattle.pg_families.specs.Connectivity.{RejectsSpan, span_acceptance, span_acceptances}
use Rattle.pg_families.proofs.Judging.{accepted_all, accepted_cut}
use Rattle.pg_families.proofs.Spans.{judged_rejects}
use Rattle.pg_families.proofs.span_check.judge_spans.Goals as goal

pub returns-in_err-accept_spans-in-Ok-clause-judged :
    goal.returns-in_err-accept_spans-in-Ok-clause-judged
returns-in_err-accept_spans-in-Ok-clause-judged g c =
    let p = err_from_is_err_and c.from_residual.result c.from_residual.ensures.1 in
    let before = g.C.Console.told c.args.console.now in
    let after = g.C.Console.told c.accept_spans.new.console in
    rw (p.1, p.2)
    (accepted_cut span_entry IsSpanValid RejectsSpan c.args.game.now c.args.certificate.now
    c.in-Ok.ensures.valid span_acceptances before after c.in_err-accept_spans-in-Ok.field-0.0
    c.in_err-accept_spans-in-Ok.ensures.write
    (subst (λ (claims : List SpanClaim). IsCut (map span_acceptance claims) before.log after.log)
    c.as_slice.ensures c.in_err-accept_spans-in-Ok.ensures.said)
    c.in_err-accept_spans-in-Ok.ensures.left)

pub returns-in_ok-accept_spans-in-Ok-clause-judged :
    goal.returns-in_ok-accept_spans-in-Ok-clause-judged
returns-in_ok-accept_spans-in-Ok-clause-judged g c =
    let before = g.C.Console.told c.args.console.now in
    let after = g.C.Console.told c.accept_spans.new.console in
    accepted_all span_entry IsSpanValid RejectsSpan c.args.game.now c.args.certificate.now
    c.in-Ok.ensures.valid span_acceptances before after (subst (λ (claims : List SpanClaim).
    Grows before.log after.log (map Said (map span_acceptance claims))) c.as_slice.ensures
    c.in_ok-accept_spans-in-Ok.ensures.said) c.in_ok-accept_spans-in-Ok.ensures.left

pub returns-in-Err-Reject-clause-judged : goal.returns-in-Err-Reject-clause-judged
returns-in-Err-Reject-clause-judged g c = rw c.in-Err-Reject.claim-is
    (judged_rejects c.args.game.now c.args.certificate.now c.in-Err-Reject.claim c.in-Err-Reject.why
    c.number.result (c.number.ensures ∙ ap flaw_number c.in-Err-Reject.why-is)
    (g.C.Console.told c.args.console.now) (c.in-Err-Reject.ensures.reject c.in-Err-Reject.claim
    c.in-Err-Reject.why (ap (λ (f : SpanFault). Err f) c.in-Err-Reject.field-0-is)))
