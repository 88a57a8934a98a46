-- What the code keeps of a game line by line.
use Rattle.std.specs.Prelude.{◌≡◌, Some}
use Rattle.pg_duel.specs.Prelude.{IsFit, chosen_claim, sitting_of}
use Rattle.pg_duel.specs.DuelLog.{Holds}
use Rattle.pg_duel.specs.declared.rival.Rival.{Rival}

-- the game is played by the claim that was chosen
pub record Sits (rival : Rival) : Type 0 where
  pub game : rival.checked.game.now ≡ rival.seat.session.game
  pub chosen : chosen_claim rival.checked.game.now rival.checked.cert.now
      rival.seat.player.claim.side ≡ Some rival.seat.player.claim
  pub fits : IsFit rival.checked.game.now rival.seat.player.claim (sitting_of rival.seat)

-- and the claim is held
abbrev pub Stays : Rival → Type 0
Stays rival = Sits rival
    × Holds rival.checked.game.now rival.seat.player.claim (sitting_of rival.seat)
