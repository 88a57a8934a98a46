use Rattle.std.proofs.Common.{◌∙◌, refl, subst, sym}
use Rattle.std.specs.Prelude.{option_copied}
use Rattle.pg_duel.proofs.Common.{Does, Game, Stores, err_from_is_err_and, sitting_of}
use Rattle.pg_duel.specs.DuelLog.{Closes, Shows, Steps}
use Rattle.pg_duel.specs.Dueling.{EndsWith}
use Rattle.pg_playing.proofs.Runs.{plays_broken, plays_closed, stored_gives}
use Rattle.pg_duel.proofs.playing.play_seat.Goals as goal

pub play_to_the_end-requires-clause-moved : goal.play_to_the_end-requires-clause-moved
play_to_the_end-requires-clause-moved g c = record {
  game = c.requires.game;
  chosen = c.requires.chosen;
  fits = c.requires.fits;
}

pub returns-in_err-play_to_the_end-clause-played :
    goal.returns-in_err-play_to_the_end-clause-played
returns-in_err-play_to_the_end-clause-played g c =
    let p = err_from_is_err_and c.from_residual.result c.from_residual.ensures.1 in
    let game = c.args.checked.game.now in
    let claim = c.args.seat.player.claim in
    rw (p.1, p.2)
    (plays_broken (Steps c.args.challenge.look game claim) (Shows (sitting_of c.args.seat) 0)
    (EndsWith game claim) game (option_copied c.args.challenge.record)
    (g.F.Files.told c.args.files.now) (g.C.Console.told c.args.console.now)
    (g.C.Console.told c.play_to_the_end.new.console)
    c.in_err-play_to_the_end.field-0.0 c.in_err-play_to_the_end.ensures.course)

pub returns-clause-played : goal.returns-clause-played
returns-clause-played g c =
    let game = c.args.checked.game.now in
    let claim = c.args.seat.player.claim in
    let new = c.play_to_the_end.new.bout.seat in
    let ended = c.in_ok-play_to_the_end.ensures in
    let last = sitting_of new in
    plays_closed (Steps c.args.challenge.look game claim) (Shows (sitting_of c.args.seat) 0)
    (Closes last) (EndsWith game claim) game (option_copied c.args.challenge.record)
    (g.F.Files.told c.args.files.now) (g.F.Files.told c.store.new.files)
    (g.C.Console.told c.args.console.now) (g.C.Console.told c.play_to_the_end.new.console)
    (g.C.Console.told c.store.new.console) new.session.events
    (last, refl, refl, ended.allows.holds last ended.shown.1) ended.course c.store.result
    (subst (λ (k : Game). Does (Stores (option_copied c.args.challenge.record) k
    new.session.events) (g.F.Files.told c.args.files.now) (g.F.Files.told c.store.new.files)
    (g.C.Console.told c.play_to_the_end.new.console) (g.C.Console.told c.store.new.console)
    c.store.result) (sym ended.shown.0.game ∙ ended.allows.same_game) c.store.ensures.stored)

pub returns-clause-gives : goal.returns-clause-gives
returns-clause-gives g c =
    stored_gives c.store.result c.store.ensures.done c.store.ensures.halts
