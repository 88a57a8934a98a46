use Rattle.std.proofs.Common.{◌∙◌, Err, ap}
use Rattle.pg_families.proofs.Common.{IsSpanValid, SpanFault, span_entry}
use Rattle.pg_span.specs.Flaw.{flaw_number}
use Rattle.pg_span.specs.declared.player.SpanOpen.{SpanOpen}
use Rattle.pg_families.specs.Connectivity.{HasSpanClaim, LacksSpanClaim, RejectsSpan}
use Rattle.pg_families.specs.Connectivity.{span_contender}
use Rattle.pg_families.proofs.Commands.{play_halts}
use Rattle.pg_families.proofs.Judging.{played_unclaimed}
use Rattle.pg_families.proofs.Spans.{play_rejects, plays_opened}
use Rattle.pg_families.proofs.span_play.play_by.Goals as goal

pub returns-in-Err-NoClaim-clause-played : goal.returns-in-Err-NoClaim-clause-played
returns-in-Err-NoClaim-clause-played g c =
    let same = c.in-Ok.ensures in
    let out = played_unclaimed span_entry IsSpanValid RejectsSpan c.in-Ok.checked.game.now
    c.in-Ok.checked.cert.now (rw (same.game, same.cert) same.valid) (HasSpanClaim c.args.side)
    (LacksSpanClaim c.args.side) (span_contender c.args.side) c.args.side
    (g.C.Console.told c.args.console.now)
    (c.in-Err-NoClaim.ensures.none (ap (λ (f : SpanOpen). Err f) c.in-Err-NoClaim.field-0-is)) in
    rw (same.game, same.cert) at out

pub returns-in-Ok-open-clause-played : goal.returns-in-Ok-open-clause-played
returns-in-Ok-open-clause-played g c =
    let same = c.in-Ok.ensures in
    let opened = c.in-Ok-open.ensures in
    let out = plays_opened c.args.side c.in-Ok.checked.game.now c.in-Ok.checked.cert.now
    (g.C.Console.told c.args.console.now) (g.C.Console.told c.play_claim.new.console)
    c.in-Ok-open.player c.play_claim.result (rw (same.game, same.cert) same.valid) opened.chosen
    opened.side opened.game opened.position c.play_claim.ensures.played in
    rw (same.game, same.cert) at out

pub returns-in-Ok-open-clause-halts : goal.returns-in-Ok-open-clause-halts
returns-in-Ok-open-clause-halts g c = play_halts c.play_claim.result c.play_claim.ensures.halts

pub returns-in-Err-Reject-clause-played : goal.returns-in-Err-Reject-clause-played
returns-in-Err-Reject-clause-played g c = rw c.in-Err-Reject.claim-is
    (play_rejects c.args.side c.args.game.now c.args.certificate.now c.in-Err-Reject.claim
    c.in-Err-Reject.why c.number.result (c.number.ensures ∙ ap flaw_number c.in-Err-Reject.why-is)
    (g.C.Console.told c.args.console.now) (c.in-Err-Reject.ensures.reject c.in-Err-Reject.claim
    c.in-Err-Reject.why (ap (λ (f : SpanFault). Err f) c.in-Err-Reject.field-0-is)))
