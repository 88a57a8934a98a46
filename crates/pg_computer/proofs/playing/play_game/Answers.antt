use Rattle.std.proofs.Common.{◌∙◌, [], ap, refl, subst, sym}
use Rattle.std.specs.Prelude.{option_copied}
use Rattle.pg_playing.proofs.Runs.{plays_broken, plays_closed, stored_gives}
use Rattle.pg_computer.proofs.Common.{Breaks, Course, Does, Game, IsMadeForGame, Look, Memory}
use Rattle.pg_computer.proofs.Common.{Recorded, Stores, TableStage, err_from_is_err_and}
use Rattle.pg_computer.proofs.Common.{stopped_first}
use Rattle.pg_computer.specs.Points.{ArePoints}
use Rattle.pg_computer.specs.Versus.{EndsWith, PlaysVersus}
use Rattle.pg_computer.specs.VersusLog.{Closes, Shows, Steps}
use Rattle.pg_computer.proofs.Standing.{no_points}
use Rattle.pg_computer.proofs.playing.play_game.Goals as goal

pub returns-in_err-table-clause-played : goal.returns-in_err-table-clause-played
returns-in_err-table-clause-played g c =
    let p = err_from_is_err_and c.from_residual.result c.from_residual.ensures.1 in
    let asked = c.args.order in
    rw (p.1, p.2)
    (stopped_first (PlaysVersus (g.S.Finder.brings c.args.finder.now) asked.budget asked.look
    asked.side c.args.game.now (option_copied asked.record))
    (g.F.Files.told c.args.files.now) (g.F.Files.told c.args.files.now)
    (g.C.Console.told c.args.console.now) (g.C.Console.told c.args.console.now)
    Memory refl refl refl)

pub play_to_the_end-requires-clause-moved : goal.play_to_the_end-requires-clause-moved
play_to_the_end-requires-clause-moved g c =
    let begun = c.in_ok-table.ensures in
    let session = c.in_ok-table.table.session in
    let own = ap (λ (s : Recorded). s.game) begun.session in (
      (
        begun.game ∙ sym own,
        subst (λ (k : Game). IsMadeForGame c.in_ok-table.table.judge k) (sym own) begun.judge,
      ),
      no_points session.game session.events (ap (λ (s : Recorded). s.events) begun.session),
      c.requires,
    )

pub returns-in_err-play_to_the_end-clause-played :
    goal.returns-in_err-play_to_the_end-clause-played
returns-in_err-play_to_the_end-clause-played g c =
    let p = err_from_is_err_and c.from_residual-in_err-play_to_the_end.result
    c.from_residual-in_err-play_to_the_end.ensures.1 in
    let asked = c.args.order in
    let brings = g.S.Finder.brings c.args.finder.now in
    let begun = c.in_ok-table.ensures in
    let stop = c.in_err-play_to_the_end.field-0.0 in
    let before = g.C.Console.told c.args.console.now in
    let after = g.C.Console.told c.play_to_the_end.new.console in
    rw (p.1, p.2)
    (plays_broken (Steps brings asked.budget asked.look asked.side c.args.game.now) (Shows [] 0)
    (EndsWith c.args.game.now) c.args.game.now (option_copied asked.record)
    (g.F.Files.told c.args.files.now) before after stop
    (subst (λ (k : (Look × Game) × TableStage). Breaks (Steps brings asked.budget k.0.0 asked.side
    k.0.1) before after k.1 stop)
    (λ i. ((begun.look i, begun.game i), Shows (begun.session i).events 0))
    c.in_err-play_to_the_end.ensures.course))

pub returns-clause-played : goal.returns-clause-played
returns-clause-played g c =
    let asked = c.args.order in
    let brings = g.S.Finder.brings c.args.finder.now in
    let begun = c.in_ok-table.ensures in
    let ended = c.in_ok-play_to_the_end.ensures in
    let seated = ended.shown.0 in
    let own = sym seated.0 ∙ ended.allows.same_game ∙ begun.game in
    let events = c.play_to_the_end.new.bout.table.session.events in
    let before = g.C.Console.told c.args.console.now in
    let mid = g.C.Console.told c.play_to_the_end.new.console in
    let after = g.C.Console.told c.store.new.console in
    plays_closed (Steps brings asked.budget asked.look asked.side c.args.game.now) (Shows [] 0)
    (Closes events) (EndsWith c.args.game.now) c.args.game.now (option_copied asked.record)
    (g.F.Files.told c.args.files.now) (g.F.Files.told c.store.new.files)
    before mid after events
    (refl, subst (λ (k : Game). ArePoints k events) own ended.shown.1)
    (subst (λ (k : (Look × Game) × TableStage). Course (Steps brings asked.budget k.0.0 asked.side
    k.0.1) before mid k.1 (Closes events))
    (λ i. ((begun.look i, begun.game i), Shows (begun.session i).events 0))
    ended.course) c.store.result
    (subst (λ (k : Game). Does (Stores (option_copied asked.record) k events)
    (g.F.Files.told c.args.files.now) (g.F.Files.told c.store.new.files) mid after
    c.store.result) own c.store.ensures.stored)

pub returns-clause-gives : goal.returns-clause-gives
returns-clause-gives g c =
    stored_gives c.store.result c.store.ensures.done c.store.ensures.halts
