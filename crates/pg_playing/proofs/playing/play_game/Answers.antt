use Rattle.std.proofs.Common.{◌∙◌, [], refl, subst, sym}
use Rattle.std.specs.Prelude.{option_copied}
use Rattle.pg_playing.proofs.Common.{Course, Does, Game, Look, Memory}
use Rattle.pg_playing.proofs.Common.{err_from_is_err_and, stopped_first}
use Rattle.pg_playing.specs.Courses.{Breaks}
use Rattle.pg_playing.specs.Playing.{EndsWith, PlaysGame, Stores}
use Rattle.pg_playing.specs.TableLog.{Closes, Shows, Steps, TableStage}
use Rattle.pg_playing.proofs.Runs.{plays_broken, plays_closed, stored_gives}
use Rattle.pg_playing.proofs.playing.play_game.Goals as goal

pub returns-in_err-table-clause-played : goal.returns-in_err-table-clause-played
returns-in_err-table-clause-played g c =
    let p = err_from_is_err_and c.from_residual.result c.from_residual.ensures.1 in
    rw (p.1, p.2)
    (stopped_first
    (PlaysGame c.args.order.look c.args.game.now (option_copied c.args.order.record))
    (g.F.Files.told c.args.files.now) (g.F.Files.told c.args.files.now)
    (g.C.Console.told c.args.console.now) (g.C.Console.told c.args.console.now)
    Memory refl refl refl)

pub returns-in_err-play_to_the_end-clause-played :
    goal.returns-in_err-play_to_the_end-clause-played
returns-in_err-play_to_the_end-clause-played g c =
    let p = err_from_is_err_and c.from_residual-in_err-play_to_the_end.result
    c.from_residual-in_err-play_to_the_end.ensures.1 in
    let begun = c.in_ok-table.ensures in
    let stop = c.in_err-play_to_the_end.field-0.0 in
    let before = g.C.Console.told c.args.console.now in
    let after = g.C.Console.told c.play_to_the_end.new.console in
    rw (p.1, p.2)
    (plays_broken (Steps c.args.order.look c.args.game.now) (Shows [] 0) EndsWith c.args.game.now
    (option_copied c.args.order.record) (g.F.Files.told c.args.files.now) before after stop
    (subst (λ (k : (Look × Game) × TableStage). Breaks (Steps k.0.0 k.0.1) before after k.1 stop)
    (λ i. ((begun.look i, begun.game i), Shows (begun.session i).events 0))
    c.in_err-play_to_the_end.ensures.course))

pub returns-clause-played : goal.returns-clause-played
returns-clause-played g c =
    let begun = c.in_ok-table.ensures in
    let ended = c.in_ok-play_to_the_end.ensures in
    let events = c.play_to_the_end.new.bout.session.events in
    let before = g.C.Console.told c.args.console.now in
    let mid = g.C.Console.told c.play_to_the_end.new.console in
    let after = g.C.Console.told c.store.new.console in
    plays_closed (Steps c.args.order.look c.args.game.now) (Shows [] 0) (Closes events) EndsWith
    c.args.game.now (option_copied c.args.order.record)
    (g.F.Files.told c.args.files.now) (g.F.Files.told c.store.new.files)
    before mid after events refl
    (subst (λ (k : (Look × Game) × TableStage). Course (Steps k.0.0 k.0.1) before mid k.1
    (Closes events)) (λ i. ((begun.look i, begun.game i), Shows (begun.session i).events 0))
    ended.course) c.store.result
    (subst (λ (k : Game). Does (Stores (option_copied c.args.order.record) k events)
    (g.F.Files.told c.args.files.now) (g.F.Files.told c.store.new.files) mid after
    c.store.result) (sym ended.shown.0 ∙ ended.allows.same_game ∙ begun.game)
    c.store.ensures.stored)

pub returns-clause-gives : goal.returns-clause-gives
returns-clause-gives g c =
    stored_gives c.store.result c.store.ensures.done c.store.ensures.halts
