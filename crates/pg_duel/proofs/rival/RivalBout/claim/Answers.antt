use Rattle.std.proofs.Common.{◌∙◌, inr, refl, subst, sym}
use Rattle.pg_duel.proofs.Common.{AfterTurn, Game, IsFit, Turn, err_from_is_err_and, sitting_of}
use Rattle.pg_duel.proofs.Common.{turned}
use Rattle.pg_duel.specs.DuelLog.{Claims, Stalls}
use Rattle.pg_duel.specs.Seats.{Sits, Stays}
use Rattle.pg_duel.proofs.Answering.{answered_claims}
use Rattle.pg_duel.proofs.Parts.{allows_claim, answered_after}
use Rattle.pg_duel.proofs.rival.RivalBout.claim.Goals as goal

pub reply-requires : goal.reply-requires
reply-requires c =
    let rival = c.args.self.now in
    subst (λ (k : Game). IsFit k rival.seat.player.claim (sitting_of rival.seat))
    c.requires.shown.0.game c.requires.shown.0.fits

pub returns-in_err-played-clause-claims : goal.returns-in_err-played-clause-claims
returns-in_err-played-clause-claims c =
    let p = err_from_is_err_and c.from_residual.result c.from_residual.ensures.1 in
    λ heard. rw p.1 (Stalls (sitting_of c.args.self.now.seat), inr (inr refl))

pub returns-clause-claims : goal.returns-clause-claims
returns-clause-claims c =
    let rival = c.args.self.now in
    let new = sitting_of c.reply.new.self in
    λ heard. subst (λ (t : Turn). Claims rival.checked.game.now (sitting_of rival.seat) heard
    c.args.point (turned new heard t)) (sym c.claimed.ensures)
    (answered_claims rival.checked.game.now rival.seat.player.claim (sitting_of rival.seat) new
    heard c.args.point c.in_ok-played.played c.requires.shown.0.fits
    c.in_ok-played.ensures.answered)

pub returns-clause-after : goal.returns-clause-after
returns-clause-after c =
    let rival = c.args.self.now in
    let new = c.reply.new.self in
    let there = record rival { seat = new } in
    subst (λ (t : Turn). AfterTurn (Sits there) (Stays there) t) (sym c.claimed.ensures)
    (answered_after rival new c.args.point c.in_ok-played.played c.requires.shown
    c.in_ok-played.ensures.answered
    (subst (λ (k : Game). IsFit k rival.seat.player.claim (sitting_of new))
    (sym c.requires.shown.0.game) c.in_ok-played.ensures.fits)
    (c.in_ok-played.ensures.game ∙ sym c.requires.shown.0.game))

pub returns-clause-allows : goal.returns-clause-allows
returns-clause-allows c =
    let rival = c.args.self.now in
    allows_claim rival.look rival.checked.game.now rival.seat.player.claim
    c.reply.new.self.player.claim c.in_ok-played.ensures.fits.on.same_claim
