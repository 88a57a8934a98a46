use Rattle.std.proofs.Common.{◌≡◌, IfSome, true, subst}
use Rattle.pg_game.specs.Value.{rules_of, reaches}
use Rattle.pg_player.specs.Player.{Play}
use Rattle.pg_player.specs.Stand.{standing_of}
use Rattle.pg_player.proofs.Going.{on-forces}
use Rattle.pg_switch.proofs.Seats.{outcome-reached}
use Rattle.pg_player.proofs.player.Player.outcome.Goals as goal

pub returns-clause-reached : goal.returns-clause-reached
returns-clause-reached c =
    let a = c.self.inside in
    subst (λ (play : Play).
    IfSome a.ending (λ score. reaches play.claim.side play.claim.goal score ≡ true)) c.self.view_is
    (outcome-reached (rules_of a.game.now) a.position a.claim.now.side a.claim.now.goal a.ending
    (on-forces a.game.now a.claim.now a.position
    (standing_of a.claim.now.nodes a.stand) c.self.invariant.on) c.self.invariant.known)
