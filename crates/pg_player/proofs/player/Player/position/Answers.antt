use Rattle.std.proofs.Common.{subst}
use Rattle.pg_game.specs.Value.{Forces}
use Rattle.pg_player.specs.Player.{Play}
use Rattle.pg_player.specs.Stand.{standing_of}
use Rattle.pg_player.proofs.Going.{on-forces}
use Rattle.pg_player.proofs.player.Player.position.Goals as goal

pub returns-clause-forced : goal.returns-clause-forced
returns-clause-forced c =
    let a = c.self.inside in
    subst (λ (play : Play). Forces play.game a.position play.claim.side play.claim.goal)
    c.self.view_is
    (on-forces a.game.now a.claim.now a.position
    (standing_of a.claim.now.nodes a.stand) c.self.invariant.on)
