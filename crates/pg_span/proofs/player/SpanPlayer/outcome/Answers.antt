use Rattle.std.proofs.Common.{◌≡◌, IfSome, true, subst}
use Rattle.pg_span.proofs.Common.{Win, reaches}
use Rattle.pg_span.specs.Player.{SpanPlay}
use Rattle.pg_span.specs.Game.{span_rules_of}
use Rattle.pg_switch.proofs.Seats.{outcome-reached}
use Rattle.pg_span.proofs.player.SpanPlayer.outcome.Goals as goal

pub returns-clause-reached : goal.returns-clause-reached
returns-clause-reached c =
    let a = c.self.inside in
    subst (λ (play : SpanPlay). IfSome a.ending (λ score. reaches play.side Win score ≡ true))
    c.self.view_is
    (outcome-reached (span_rules_of a.game.now) a.position a.claim.now.side Win a.ending
    c.self.invariant.on.forced c.self.invariant.known)
