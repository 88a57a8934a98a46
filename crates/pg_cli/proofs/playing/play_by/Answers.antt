use Rattle.std.proofs.Common.{Err, ap}
use Rattle.pg_cli.proofs.Common.{err_from_is_err_and, StandsFor}
use Rattle.pg_check.specs.declared.checked.CheckFault.{CheckFault}
use Rattle.pg_evidence.proofs.Tracing.{stands_for, stood_fault}
use Rattle.pg_cli.proofs.Plays.{play_rejected, play_unmade, unmade_halts}
use Rattle.pg_cli.proofs.playing.play_by.Goals as goal

pub returns-in_err-standing-clause-played : goal.returns-in_err-standing-clause-played
returns-in_err-standing-clause-played g c =
    let p = err_from_is_err_and c.from_residual.result c.from_residual.ensures.1 in
    rw (p.1, p.2)
    (play_unmade c.args.side c.args.game.now c.args.evidence _
    (g.C.Console.told c.args.console.now) c.in_err-standing.ensures.made)

pub returns-in_err-standing-clause-halts : goal.returns-in_err-standing-clause-halts
returns-in_err-standing-clause-halts g c =
    let p = err_from_is_err_and c.from_residual.result c.from_residual.ensures.1 in
    rw (p.1, p.2) (unmade_halts _ c.in_err-standing.ensures.halts)

pub returns-in-Ok-clause-played : goal.returns-in-Ok-clause-played
returns-in-Ok-clause-played g c =
    let stands : StandsFor c.in-Ok.checked.game.now c.args.evidence c.in-Ok.checked.cert.now =
    rw (c.in-Ok.ensures.game, c.in-Ok.ensures.cert)
    (stands_for c.args.game.now c.args.evidence c.in_ok-standing.standing
    c.in_ok-standing.ensures.made) in
    let out = c.play_checked.ensures.played c.args.evidence stands in
    rw c.in-Ok.ensures.game at out

pub returns-in-Err-Reject-clause-played : goal.returns-in-Err-Reject-clause-played
returns-in-Err-Reject-clause-played g c =
    let fault = c.in-Err-Reject.ensures.reject c.in-Err-Reject.claim c.in-Err-Reject.node
    c.in-Err-Reject.why (ap (λ (f : CheckFault). Err f) c.in-Err-Reject.field-0-is) in
    rw (c.in-Err-Reject.why-is, c.in-Err-Reject.claim-is, c.in-Err-Reject.node-is)
    (play_rejected c.args.side c.args.game.now c.args.evidence c.in-Err-Reject.claim
    c.in-Err-Reject.node c.in-Err-Reject.why (g.C.Console.told c.args.console.now)
    (stood_fault c.args.game.now c.args.evidence c.in_ok-standing.standing c.in-Err-Reject.claim
    c.in-Err-Reject.node c.in-Err-Reject.why c.in_ok-standing.ensures.made fault))
