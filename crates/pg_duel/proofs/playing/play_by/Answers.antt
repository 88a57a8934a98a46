use Rattle.std.proofs.Common.{◌≡◌, Err, ap, inl, inr, refl}
use Rattle.std.specs.Prelude.{option_copied}
use Rattle.pg_check.specs.declared.checked.CheckFault.{CheckFault}
use Rattle.pg_duel.proofs.Common.{StandsFor, err_from_is_err_and}
use Rattle.pg_evidence.proofs.Tracing.{stands_for, stood_fault}
use Rattle.pg_duel.specs.Dueling.{PlaysBy, RefusesBy}
use Rattle.pg_duel.specs.Sides.{side_by}
use Rattle.pg_duel.proofs.Runs.{refuses_now, starves_now, unmade_calm, unmade_gives, unmade_quiet}
use Rattle.pg_duel.proofs.Runs.{unmade_runs}
use Rattle.pg_duel.proofs.playing.play_by.Goals as goal

pub returns-in_err-standing-clause-played : goal.returns-in_err-standing-clause-played
returns-in_err-standing-clause-played g c =
    let p = err_from_is_err_and c.from_residual.result c.from_residual.ensures.1 in
    rw (p.1, p.2)
    (unmade_runs c.args.challenge.side c.args.challenge.look c.args.game.now c.args.evidence
    (option_copied c.args.challenge.record) (g.F.Files.told c.args.files.now)
    (g.C.Console.told c.args.console.now) _ c.in_err-standing.ensures.made
    c.in_err-standing.ensures.halts)

pub returns-in_err-standing-clause-causes : goal.returns-in_err-standing-clause-causes
returns-in_err-standing-clause-causes g c =
    let p = err_from_is_err_and c.from_residual.result c.from_residual.ensures.1 in
    rw (p.1, p.2)
    (unmade_calm (g.F.Files.told c.args.files.now) (g.C.Console.told c.args.console.now) _
    c.in_err-standing.ensures.halts)

pub returns-in_err-standing-clause-quiet : goal.returns-in_err-standing-clause-quiet
returns-in_err-standing-clause-quiet g c =
    let p = err_from_is_err_and c.from_residual.result c.from_residual.ensures.1 in
    rw (p.1, p.2) (unmade_quiet (g.C.Console.told c.args.console.now) _)

pub returns-in_err-standing-clause-gives : goal.returns-in_err-standing-clause-gives
returns-in_err-standing-clause-gives g c =
    let p = err_from_is_err_and c.from_residual.result c.from_residual.ensures.1 in
    rw (p.1, p.2) (unmade_gives _ c.in_err-standing.ensures.halts)

pub returns-in-Ok-clause-played : goal.returns-in-Ok-clause-played
returns-in-Ok-clause-played g c =
    let stands : StandsFor c.in-Ok.checked.game.now c.args.evidence c.in-Ok.checked.cert.now =
    rw (c.in-Ok.ensures.game, c.in-Ok.ensures.cert)
    (stands_for c.args.game.now c.args.evidence c.in_ok-standing.standing
    c.in_ok-standing.ensures.made) in
    let side : c.side_by-side.result
    ≡ side_by c.args.challenge.side c.in-Ok.checked.game.now.turn c.in-Ok.checked.cert.now =
    rw (c.in-Ok.ensures.game, c.in-Ok.ensures.cert) c.side_by-side.ensures in
    let out = c.play_side.ensures.played c.args.evidence stands side in
    rw c.in-Ok.ensures.game at out

pub returns-in-Err-Reject-clause-played : goal.returns-in-Err-Reject-clause-played
returns-in-Err-Reject-clause-played g c =
    let fault = c.in-Err-Reject.ensures.reject c.in-Err-Reject.claim c.in-Err-Reject.node
    c.in-Err-Reject.why (ap (λ (f : CheckFault). Err f) c.in-Err-Reject.field-0-is) in
    rw (c.in-Err-Reject.why-is, c.in-Err-Reject.claim-is, c.in-Err-Reject.node-is)
    (refuses_now (RefusesBy c.args.challenge.side c.args.game.now c.args.evidence)
    (PlaysBy c.args.challenge.look c.args.challenge.side c.args.game.now c.args.evidence
    (option_copied c.args.challenge.record)) (g.F.Files.told c.args.files.now)
    (g.C.Console.told c.args.console.now) _
    (inl (inr (
      c.in-Err-Reject.claim,
      c.in-Err-Reject.node,
      c.in-Err-Reject.why,
      stood_fault c.args.game.now c.args.evidence c.in_ok-standing.standing c.in-Err-Reject.claim
          c.in-Err-Reject.node c.in-Err-Reject.why c.in_ok-standing.ensures.made fault,
      refl,
    ))))

pub returns-clause-played : goal.returns-clause-played
returns-clause-played g c =
    starves_now (RefusesBy c.args.challenge.side c.args.game.now c.args.evidence)
    (PlaysBy c.args.challenge.look c.args.challenge.side c.args.game.now c.args.evidence
    (option_copied c.args.challenge.record)) (g.F.Files.told c.args.files.now)
    (g.C.Console.told c.args.console.now)
