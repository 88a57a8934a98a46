use Rattle.std.proofs.Common.{◌≡◌, IfSome, true, subst}
use Rattle.pg_vec_player.proofs.Common.{Win, reaches, vector_rules}
use Rattle.pg_vec_player.specs.Player.{VecPlay}
use Rattle.pg_switch.proofs.Seats.{outcome-reached}
use Rattle.pg_vec_player.proofs.player.VecPlayer.outcome.Goals as goal

pub returns-clause-reached : goal.returns-clause-reached
returns-clause-reached c =
    let a = c.self.inside in
    subst (λ (play : VecPlay). IfSome a.ending (λ score. reaches play.side Win score ≡ true))
    c.self.view_is
    (outcome-reached (vector_rules a.game.now) a.position a.side Win a.ending
    c.self.invariant.on.forced c.self.invariant.known)
