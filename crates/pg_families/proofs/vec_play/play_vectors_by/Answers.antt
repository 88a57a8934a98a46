use Rattle.std.proofs.Common.{◌∙◌, Err, ap}
use Rattle.pg_families.proofs.Common.{IsVecValid, flaw_number, VecFault, vector_entry}
use Rattle.pg_vec_player.specs.declared.player.VecOpen.{VecOpen}
use Rattle.pg_families.specs.Vectors.{HasVecClaim, LacksVecClaim, RejectsVectors, vec_contender}
use Rattle.pg_families.proofs.Commands.{play_halts}
use Rattle.pg_families.proofs.Judging.{played_unclaimed}
use Rattle.pg_families.proofs.OnVectors.{play_rejects, plays_opened}
use Rattle.pg_families.proofs.vec_play.play_vectors_by.Goals as goal

pub returns-in-Err-NoClaim-clause-played : goal.returns-in-Err-NoClaim-clause-played
returns-in-Err-NoClaim-clause-played g c =
    let same = c.in-Ok.ensures in
    let out = played_unclaimed vector_entry IsVecValid RejectsVectors c.in-Ok.checked.game.now
    c.in-Ok.checked.cert.now (rw (same.game, same.cert) same.valid) (HasVecClaim c.args.side)
    (LacksVecClaim c.args.side) (vec_contender c.args.side) c.args.side
    (g.C.Console.told c.args.console.now)
    (c.in-Err-NoClaim.ensures.none (ap (λ (f : VecOpen). Err f) c.in-Err-NoClaim.field-0-is)) in
    rw (same.game, same.cert) at out

pub returns-in-Ok-open-clause-played : goal.returns-in-Ok-open-clause-played
returns-in-Ok-open-clause-played g c =
    let same = c.in-Ok.ensures in
    let opened = c.in-Ok-open.ensures in
    let out = plays_opened c.args.side c.in-Ok.checked.game.now c.in-Ok.checked.cert.now
    (g.C.Console.told c.args.console.now) (g.C.Console.told c.play_claim.new.console)
    c.in-Ok-open.player c.play_claim.result (rw (same.game, same.cert) same.valid) opened.chosen
    opened.side opened.game opened.position c.play_claim.ensures.played in
    rw (same.game, same.cert) at out

pub returns-in-Ok-open-clause-halts : goal.returns-in-Ok-open-clause-halts
returns-in-Ok-open-clause-halts g c = play_halts c.play_claim.result c.play_claim.ensures.halts

pub returns-in-Err-Reject-clause-played : goal.returns-in-Err-Reject-clause-played
returns-in-Err-Reject-clause-played g c = rw (c.in-Err-Reject.claim-is, c.in-Err-Reject.node-is)
    (play_rejects c.args.side c.args.game.now c.args.certificate.now c.in-Err-Reject.claim
    c.in-Err-Reject.node c.in-Err-Reject.why c.number.result
    (c.number.ensures ∙ ap flaw_number c.in-Err-Reject.why-is) (g.C.Console.told c.args.console.now)
    (c.in-Err-Reject.ensures.reject c.in-Err-Reject.claim c.in-Err-Reject.node c.in-Err-Reject.why
    (ap (λ (f : VecFault). Err f) c.in-Err-Reject.field-0-is)))
