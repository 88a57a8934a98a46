-- A play, put together.
use Rattle.std.proofs.Common.{◌≡◌, ◌∙◌, ℕ, List, [], None, Some, Result, Ok, Err, refl, ap, subst}
use Rattle.std.proofs.Common.{inl, inr}
use Rattle.std.specs.Prelude.{IfErr}
use Rattle.pg_cli.proofs.Common.{Side, ConsoleTold, Entry, Game, Position, start, Cert, IsValid}
use Rattle.pg_cli.proofs.Common.{IsInnerHalt, HasFault, MakesStanding, StandsFor, Evidence}
use Rattle.pg_cli.proofs.Common.{chosen_claim, Contender, contender_of, player_of, End, Starved}
use Rattle.pg_cli.proofs.Common.{Performs, stop_end, IsPlayHalt, IsTalkHalt, IsPlay, Halt, Refused}
use Rattle.pg_cli.proofs.Common.{Stopped, performs_more, silent}
use Rattle.pg_player.specs.Player.{Play}
use Rattle.pg_messages.specs.declared.refusal.Refusal.TheVariants as refusals
use Rattle.pg_cli.specs.Playing.{PlaysOn, RefusesPlay, claimer}
use Rattle.pg_cli.specs.Reading.{read_of}

-- a player was opened, and its claim is said and played
pub plays_opened : (side : Side) (g : Game) (e : Evidence) (c : Cert) (before after : ConsoleTold)
    (play : Play) (r : Result ℕ Halt)
    → StandsFor g e c
    → IsValid g c
    → chosen_claim g c side ≡ Some play.claim
    → play.game ≡ g
    → play.position ≡ start g
    → Performs (λ _. ⊥) (IsPlay (player_of play)) before after r
    → Performs (RefusesPlay side (read_of g e)) (PlaysOn side (read_of g e)) before after r
plays_opened side g e c before after play r stands valid chosen same at_start performs =
    performs_more (λ _. ⊥) (RefusesPlay side (read_of g e)) (IsPlay (player_of play))
    (PlaysOn side (read_of g e)) (λ refusal none. absurd none) acts before after r performs
  where
    seen : player_of play ≡ claimer g play.claim
    seen = ap (λ (h : Game). contender_of h play.claim.side play.claim.goal play.position) same
        ∙ ap (λ (p : Position). contender_of g play.claim.side play.claim.goal p) at_start

    acts : (entries : List Entry) (end : End)
        → IsPlay (player_of play) entries end
        → PlaysOn side (read_of g e) entries end
    acts entries end is = (
      g,
      play.claim,
      (c, refl, stands, valid, chosen),
      subst (λ (k : Contender). IsPlay k entries end) seen is,
    )

-- what stands against a play
pub play_rejected : (side : Side) (g : Game) (e : Evidence) (claim node why : ℕ)
    (console : ConsoleTold)
    → HasFault g e claim node why
    → Performs (RefusesPlay side (read_of g e)) (PlaysOn side (read_of g e)) console console
    (Err (Refused (refusals.Rejected claim node why)))
play_rejected side g e claim node why console fault =
    ((g, refl, inl (inr (claim, node, why, fault, refl))), silent Starved console console refl refl)

pub play_unclaimed : (side : Side) (g : Game) (e : Evidence) (c : Cert) (console : ConsoleTold)
    → StandsFor g e c
    → IsValid g c
    → chosen_claim g c side ≡ None
    → Performs (RefusesPlay side (read_of g e)) (PlaysOn side (read_of g e)) console console
    (Err (Refused (refusals.NoClaim side)))
play_unclaimed side g e c console stands valid none =
    ((g, refl, inr (c, stands, valid, none, refl)), silent Starved console console refl refl)

-- it stands for no certificate, or memory is wanting
pub play_unmade : (side : Side) (g : Game) (e : Evidence) (halt : Halt) (console : ConsoleTold)
    → MakesStanding g e (Err halt)
    → Performs (RefusesPlay side (read_of g e)) (PlaysOn side (read_of g e)) console console
    (Err halt)
play_unmade side g e (Refused refusal) console made =
    ((g, refl, inl (inl made)), silent Starved console console refl refl)
play_unmade side g e (Stopped stop) console made =
    ([], inl refl, silent (stop_end stop) console console refl refl)

pub unmade_halts : (halt : Halt) → IsInnerHalt halt → IsPlayHalt halt
unmade_halts (Refused refusals.NoMeaning) inner = absurd inner
unmade_halts (Refused (refusals.NoClaim side)) inner = absurd inner
unmade_halts (Refused (refusals.Game number line)) inner = tt
unmade_halts (Refused (refusals.Certificate number line)) inner = tt
unmade_halts (Refused (refusals.Rejected claim node why)) inner = tt
unmade_halts (Refused (refusals.RejectedSpan claim why)) inner = tt
unmade_halts (Refused (refusals.RejectedVectors claim node why)) inner = tt
unmade_halts (Refused (refusals.RejectedImage claim node why)) inner = tt
unmade_halts (Refused (refusals.Record number line)) inner = absurd inner
unmade_halts (Stopped stop) inner = tt

-- a play that is under way is stopped by a failed call alone
pub play_halts : (r : Result ℕ Halt) → IfErr r IsTalkHalt → IfErr r IsPlayHalt
play_halts (Ok status) halts = tt
play_halts (Err (Refused refusal)) halts = absurd halts
play_halts (Err (Stopped stop)) halts = tt
