use Rattle.std.proofs.Common.{◌≡◌, Err, None, Some, ap, inr, refl, subst, sym}
use Rattle.std.specs.Prelude.{option_copied}
use Rattle.pg_duel.proofs.Common.{Side, chosen_claim, sitting_of}
use Rattle.pg_player.specs.declared.player.OpenFault.{OpenFault}
use Rattle.pg_duel.specs.Dueling.{PlaysBy, PlaysSeat, RefusesBy}
use Rattle.pg_duel.proofs.Runs.{refuses_now, runs_more, starves_now, table_gives}
use Rattle.pg_playing.proofs.Runs.{table_quiet}
use Rattle.pg_duel.proofs.playing.play_side.Goals as goal

pub returns-in-Err-NoClaim-clause-played : goal.returns-in-Err-NoClaim-clause-played
returns-in-Err-NoClaim-clause-played g c e stands is =
    let game = c.args.checked.game.now in
    let cert = c.args.checked.cert.now in
    let asked = c.args.challenge.side in
    let none = c.in-Err-NoClaim.ensures.none
    (ap (λ (f : OpenFault). Err f) c.in-Err-NoClaim.field-0-is) in
    refuses_now (RefusesBy asked game e)
    (PlaysBy c.args.challenge.look asked game e (option_copied c.args.challenge.record))
    (g.F.Files.told c.args.files.now) (g.C.Console.told c.args.console.now) _
    (inr (
      cert,
      stands,
      c.requires.valid,
      subst (λ (s : Side). chosen_claim game cert s ≡ None) is none,
      rw is refl,
    ))

pub returns-in-Err-Memory-clause-played : goal.returns-in-Err-Memory-clause-played
returns-in-Err-Memory-clause-played g c e stands is =
    starves_now (RefusesBy c.args.challenge.side c.args.checked.game.now e)
    (PlaysBy c.args.challenge.look c.args.challenge.side c.args.checked.game.now e
    (option_copied c.args.challenge.record))
    (g.F.Files.told c.args.files.now) (g.C.Console.told c.args.console.now)

pub play_seat-requires-clause-game : goal.play_seat-requires-clause-game
play_seat-requires-clause-game g c = sym c.in-Ok.ensures.game

pub play_seat-requires-clause-chosen : goal.play_seat-requires-clause-chosen
play_seat-requires-clause-chosen g c =
    subst (λ (s : Side). chosen_claim c.args.checked.game.now c.args.checked.cert.now s
    ≡ Some c.in-Ok.seat.player.claim) (sym c.in-Ok.ensures.side) c.in-Ok.ensures.chosen

pub returns-in-Ok-clause-played : goal.returns-in-Ok-clause-played
returns-in-Ok-clause-played g c e stands is =
    let game = c.args.checked.game.now in
    let cert = c.args.checked.cert.now in
    let asked = c.args.challenge.side in
    let look = c.args.challenge.look in
    let path = option_copied c.args.challenge.record in
    let seat = c.in-Ok.seat in
    let claim = seat.player.claim in
    let s = sitting_of seat in
    let chosen = subst (λ (side : Side). chosen_claim game cert side ≡ Some claim) is
    c.in-Ok.ensures.chosen in
    runs_more (λ _. ⊥) (RefusesBy asked game e) (PlaysSeat look game claim s path)
    (PlaysBy look asked game e path) (λ refusal none. absurd none)
    (λ done end acts. (
      cert,
      claim,
      s,
      stands,
      c.requires.valid,
      chosen,
      c.in-Ok.ensures.begins,
      acts,
    ))
    (g.F.Files.told c.args.files.now) (g.F.Files.told c.play_seat.new.files)
    (g.C.Console.told c.args.console.now) (g.C.Console.told c.play_seat.new.console)
    c.play_seat.result c.play_seat.ensures.played

pub returns-in-Ok-clause-quiet : goal.returns-in-Ok-clause-quiet
returns-in-Ok-clause-quiet g c = table_quiet (g.C.Console.told c.args.console.now)
    (g.C.Console.told c.play_seat.new.console) c.play_seat.result c.play_seat.ensures.gives

pub returns-in-Ok-clause-gives : goal.returns-in-Ok-clause-gives
returns-in-Ok-clause-gives g c = table_gives c.play_seat.result c.play_seat.ensures.gives
