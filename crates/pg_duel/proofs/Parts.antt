-- What a line leaves.
use Rattle.std.proofs.Common.{◌≡◌, ℕ, Some, Result, Ok, Err, sym, subst}
use Rattle.pg_duel.proofs.Common.{AfterTurn, Allows, Claim, Game, Illegal, IsAnswered, IsFit}
use Rattle.pg_duel.proofs.Common.{Look, Side, Sitting, claimed}
use Rattle.pg_duel.proofs.Common.{chosen_claim, sitting_of}
use Rattle.pg_duel.specs.DuelLog.{Holds, duel_rules}
use Rattle.pg_duel.specs.Seats.{Sits, Stays}
use Rattle.pg_duel.specs.declared.rival.Rival.{Rival}
use Rattle.pg_opponent.specs.declared.seat.Seat.{Seat}
use Rattle.pg_playing.proofs.Dialogues.{allows_same}
use Rattle.pg_duel.proofs.Answering.{chosen_same}

-- another seat, of the same game and the same claim
module _ (old : Rival) (new : Seat) (sits : Sits old)
    (game : new.session.game ≡ old.checked.game.now)
    (claim : new.player.claim ≡ old.seat.player.claim) where
  pub sits_on : IsFit old.checked.game.now old.seat.player.claim (sitting_of new)
      → Sits (record old { seat = new })
  sits_on fits = record {
    game = sym game;
    chosen = subst (λ (k : Claim). chosen_claim old.checked.game.now old.checked.cert.now k.side
        ≡ Some k) (sym claim) sits.chosen;
    fits = subst (λ (k : Claim). IsFit old.checked.game.now k (sitting_of new)) (sym claim) fits;
  }

  pub holds_on : sitting_of new ≡ sitting_of old.seat
      → Holds old.checked.game.now old.seat.player.claim (sitting_of old.seat)
      → Holds old.checked.game.now new.player.claim (sitting_of new)
  holds_on same holds = subst (λ (k : Claim). Holds old.checked.game.now k (sitting_of new))
      (sym claim) (subst (λ (s : Sitting). Holds old.checked.game.now old.seat.player.claim s)
      (sym same) holds)

-- the claim that is chosen again is the same
pub again_same : (rival : Rival) (side : Side) (again : Claim)
    → Sits rival
    → side ≡ rival.seat.player.claim.side
    → chosen_claim rival.checked.game.now rival.checked.cert.now side ≡ Some again
    → again ≡ rival.seat.player.claim
again_same rival side again sits same chosen = chosen_same
    (λ (s : Side). chosen_claim rival.checked.game.now rival.checked.cert.now s)
    rival.seat.player.claim.side side again rival.seat.player.claim same chosen sits.chosen

-- a reply was taken, or refused
pub answered_after : (old : Rival) (new : Seat) (v : ℕ) (found : Result (Unit {0}) Illegal)
    → Stays old
    → IsAnswered (sitting_of old.seat) v (sitting_of new) found
    → IsFit old.checked.game.now old.seat.player.claim (sitting_of new)
    → new.session.game ≡ old.checked.game.now
    → AfterTurn (Sits (record old { seat = new })) (Stays (record old { seat = new }))
    (claimed found)
answered_after old new v (Ok _) stays answered fits game =
    sits_on old new stays.0 game fits.on.same_claim fits
answered_after old new v (Err why) stays answered fits game = (
  sits_on old new stays.0 game fits.on.same_claim fits,
  holds_on old new stays.0 game fits.on.same_claim answered.1 stays.1,
)

-- the same claim allows the same
pub allows_claim : (look : Look) (g : Game) (c d : Claim)
    → d ≡ c
    → Allows (duel_rules look g c) (duel_rules look g d)
allows_claim look g c d same = subst (λ (k : Claim). Allows (duel_rules look g c)
    (duel_rules look g k)) (sym same) (allows_same (duel_rules look g c))
