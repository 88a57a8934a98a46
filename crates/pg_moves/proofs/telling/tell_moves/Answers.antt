use Rattle.std.proofs.Common.{◌∙◌, List, ap, refl}
use Rattle.pg_io.specs.declared.stop.Stop.TheVariants.{Memory}
use Rattle.pg_moves.proofs.Common.{err_from_is_err_and}
use Rattle.pg_moves.proofs.Told.{told_best, told_unknown, untold}
use Rattle.pg_settle.specs.JsonLines.{json_name}
use Rattle.pg_moves.specs.Best.{best_tried, list_of}
use Rattle.pg_moves.specs.Lines.{moves_text}
use Rattle.pg_moves.specs.declared.trial.Trial.{Trial}
use Rattle.pg_moves.proofs.telling.tell_moves.Goals as goal

pub returns-in_err-trials-clause-told : goal.returns-in_err-trials-clause-told
returns-in_err-trials-clause-told g c =
    let p = err_from_is_err_and c.from_residual.result c.from_residual.ensures.1 in
    rw (p.1, p.2)
    (untold (g.S.Finder.brings c.args.finder.now) c.args.order.budget
    (json_name c.args.order.json c.args.order.game.now) c.args.game.now
    (g.C.Console.told c.args.console.now) (g.C.Console.told c.args.console.now) Memory refl refl)

pub returns-in_err-best-clause-told : goal.returns-in_err-best-clause-told
returns-in_err-best-clause-told g c =
    let p =
    err_from_is_err_and c.from_residual-in_err-best.result c.from_residual-in_err-best.ensures.1 in
    rw (p.1, p.2)
    (untold (g.S.Finder.brings c.args.finder.now) c.args.order.budget
    (json_name c.args.order.json c.args.order.game.now) c.args.game.now
    (g.C.Console.told c.args.console.now) (g.C.Console.told c.args.console.now) Memory refl refl)

pub returns-in_err-text-clause-told : goal.returns-in_err-text-clause-told
returns-in_err-text-clause-told g c =
    let p =
    err_from_is_err_and c.from_residual-in_err-text.result c.from_residual-in_err-text.ensures.1 in
    rw (p.1, p.2)
    (untold (g.S.Finder.brings c.args.finder.now) c.args.order.budget
    (json_name c.args.order.json c.args.order.game.now) c.args.game.now
    (g.C.Console.told c.args.console.now) (g.C.Console.told c.args.console.now) Memory refl refl)

pub returns-in_err-say_text-clause-told : goal.returns-in_err-say_text-clause-told
returns-in_err-say_text-clause-told g c =
    let p = err_from_is_err_and c.from_residual-in_err-say_text.result
    c.from_residual-in_err-say_text.ensures.1 in
    rw (p.1, p.2)
    (untold (g.S.Finder.brings c.args.finder.now) c.args.order.budget
    (json_name c.args.order.json c.args.order.game.now) c.args.game.now
    (g.C.Console.told c.args.console.now) (g.C.Console.told c.say_text.new.console)
    c.in_err-say_text.field-0.0 c.in_err-say_text.ensures.said c.in_err-say_text.ensures.left)

pub returns-in-Some-clause-told : goal.returns-in-Some-clause-told
returns-in-Some-clause-told g c =
    let own = c.args.game.now in
    let json = json_name c.args.order.json c.args.order.game.now in
    let best = list_of c.in_ok-best.best in
    told_best (g.S.Finder.brings c.args.finder.now) c.args.order.budget json own
    (g.C.Console.told c.args.console.now) (g.C.Console.told c.say_text.new.console)
    c.in_ok-trials.trials.items c.in_ok-trials.ensures.trials best
    (c.in_ok-best.ensures
    ∙ ap (λ (ts : List Trial). best_tried own.turn ts) c.deref.ensures.value)
    c.as_str.result.now (c.as_str.ensures.value ∙ c.in_ok-text.ensures
    ∙ ap (λ (ts : List Trial). moves_text json own.kind own.turn ts best) c.deref-2.ensures.value)
    c.in_ok-say_text.ensures.said c.in_ok-say_text.ensures.left c.in-Some.field-0.items
    (ap list_of c.in-Some.is)

pub returns-clause-told : goal.returns-clause-told
returns-clause-told g c =
    let own = c.args.game.now in
    let json = json_name c.args.order.json c.args.order.game.now in
    let best = list_of c.in_ok-best.best in
    told_unknown (g.S.Finder.brings c.args.finder.now) c.args.order.budget json own
    (g.C.Console.told c.args.console.now) (g.C.Console.told c.say_text.new.console)
    c.in_ok-trials.trials.items c.in_ok-trials.ensures.trials best
    (c.in_ok-best.ensures
    ∙ ap (λ (ts : List Trial). best_tried own.turn ts) c.deref.ensures.value)
    c.as_str.result.now (c.as_str.ensures.value ∙ c.in_ok-text.ensures
    ∙ ap (λ (ts : List Trial). moves_text json own.kind own.turn ts best) c.deref-2.ensures.value)
    c.in_ok-say_text.ensures.said c.in_ok-say_text.ensures.left (ap list_of c.in-None.is)
