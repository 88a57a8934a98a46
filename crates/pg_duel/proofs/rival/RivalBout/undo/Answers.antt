use Rattle.std.proofs.Common.{◌<◌, ◌∙◌, ◌-◌, ap, arith, get_or, inl, inr, length, refl, subst}
use Rattle.std.proofs.Common.{sym}
use Rattle.std.proofs.Common.{take}
use Rattle.pg_duel.proofs.Common.{Claim, IsFit, sitting_of}
use Rattle.pg_duel.specs.Prelude.{IsAfter}
use Rattle.pg_duel.specs.DuelLog.{Stalls}
use Rattle.pg_duel.proofs.Answering.{last_and_others, no_replies}
use Rattle.pg_duel.proofs.Parts.{again_same, allows_claim, sits_on}
use Rattle.pg_duel.proofs.rival.RivalBout.undo.Goals as goal

pub returns-in-empty-clause-undoes : goal.returns-in-empty-clause-undoes
returns-in-empty-clause-undoes c =
    let replies = c.args.self.now.seat.replies.items in
    let none : length replies < 1 =
    omega (arith, ap length c.as_slice.ensures.value, c.in-empty.len_below) in
    λ heard. inl (no_replies replies none, refl)

pub returns-in-Ok-clause-undoes : goal.returns-in-Ok-clause-undoes
returns-in-Ok-clause-undoes c =
    let same = again_same c.args.self.now c.side-side.result c.in-Ok.again.player.claim
    c.requires.shown.0 c.side-side.ensures c.in-Ok.ensures.chosen in
    let game = c.args.self.now.checked.game.now in
    let replies = c.as_slice.result.now in
    let others = take (length replies - 1) replies in
    let t = sitting_of c.in-Ok.again in
    λ heard. inr (inl (
      others,
      get_or replies (length replies - 1) 0,
      t,
      sym c.as_slice.ensures.value ∙ last_and_others replies c.in-len1-up.len_at_least,
      subst (λ (k : Claim). IsAfter game k others t) same c.in-Ok.ensures.after,
      refl,
    ))

pub returns-in-Ok-clause-after : goal.returns-in-Ok-clause-after
returns-in-Ok-clause-after c =
    let same = again_same c.args.self.now c.side-side.result c.in-Ok.again.player.claim
    c.requires.shown.0 c.side-side.ensures c.in-Ok.ensures.chosen in
    let rival = c.args.self.now in
    let again = c.in-Ok.again in
    sits_on rival again c.requires.shown.0 c.in-Ok.ensures.game same
    (subst (λ (k : Claim). IsFit rival.checked.game.now k (sitting_of again)) same
    c.in-Ok.ensures.fits)

pub returns-in-Ok-clause-allows : goal.returns-in-Ok-clause-allows
returns-in-Ok-clause-allows c =
    let same = again_same c.args.self.now c.side-side.result c.in-Ok.again.player.claim
    c.requires.shown.0 c.side-side.ensures c.in-Ok.ensures.chosen in
    let rival = c.args.self.now in
    allows_claim rival.look rival.checked.game.now rival.seat.player.claim
    c.in-Ok.again.player.claim same

pub returns-in-Err-Memory-clause-undoes : goal.returns-in-Err-Memory-clause-undoes
returns-in-Err-Memory-clause-undoes c =
    λ heard. (Stalls (sitting_of c.args.self.now.seat), inr (inr refl))
