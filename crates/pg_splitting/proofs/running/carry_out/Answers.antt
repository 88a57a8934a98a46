use Rattle.std.proofs.Common.{◌∙◌, refl, subst}
use Rattle.std.proofs.lemmas.Result.{err_from_is_err_and}
use Rattle.pg_splitting.proofs.Opened.{prepared_on}
use Rattle.pg_splitting.proofs.Ran.{halts_read, splits, stops_first, tells}
use Rattle.pg_splitting.specs.Prepared.{IsPrepared}
use Rattle.pg_splitting.specs.declared.preparing.Prepared.{Prepared}
use Rattle.pg_splitting.specs.declared.preparing.Prepared.TheVariants.{Declined, Split}
use Rattle.pg_splitting.proofs.running.carry_out.Goals as goal

pub returns-in_err-game-clause-ran : goal.returns-in_err-game-clause-ran
returns-in_err-game-clause-ran g c =
    let p = err_from_is_err_and c.from_residual.result c.from_residual.ensures.1 in
    rw (p.1, p.2)
    (halts_read c.args.order.folder.now c.args.order.game.now c.args.order.most
    (g.F.Files.told c.args.files.now) (g.F.Files.told c.open_game.new.files)
    (g.C.Console.told c.args.console.now) c.in_err-game.field-0.0
    c.open_game.ensures.kept.held c.in_err-game.ensures.opened)

pub returns-in_err-prepared-clause-ran : goal.returns-in_err-prepared-clause-ran
returns-in_err-prepared-clause-ran g c =
    let p = err_from_is_err_and c.from_residual-in_err-prepared.result
    c.from_residual-in_err-prepared.ensures.1 in
    rw (p.1, p.2)
    (stops_first c.args.order.folder.now c.args.order.game.now c.args.order.most
    (g.F.Files.told c.args.files.now) (g.F.Files.told c.prepare.new.files)
    (g.C.Console.told c.args.console.now) (g.C.Console.told c.args.console.now)
    c.in_err-prepared.field-0.0
    (c.prepare.ensures.kept.held ∙ c.open_game.ensures.kept.held) refl refl)

pub returns-in-Split-clause-ran : goal.returns-in-Split-clause-ran
returns-in-Split-clause-ran g c =
    let told = g.F.Files.told in
    let game = c.in_ok-game.game in
    let folder = c.args.order.folder.now in
    let most = c.args.order.most in
    let files = told c.args.files.now in
    let opened = told c.open_game.new.files in
    let mid = told c.prepare.new.files in
    let prepared = prepared_on folder most game files opened mid (Split c.in-Split.split)
    c.open_game.ensures.kept.held c.in_ok-game.ensures.causes
    (subst (λ (p : Prepared). IsPrepared folder most game opened mid p) c.in-Split.is
    c.in_ok-prepared.ensures.prepared) in
    splits folder c.args.order.game.now most files (told c.deliver_split.new.files) game
    c.in_ok-game.ensures.opened c.in-Split.split mid
    (c.prepare.ensures.kept.held ∙ c.open_game.ensures.kept.held) prepared
    (g.C.Console.told c.args.console.now) (g.C.Console.told c.deliver_split.new.console)
    c.deliver_split.result c.deliver_split.ensures.calm c.deliver_split.ensures.delivered

pub returns-clause-ran : goal.returns-clause-ran
returns-clause-ran g c =
    let told = g.F.Files.told in
    let game = c.in_ok-game.game in
    let folder = c.args.order.folder.now in
    let most = c.args.order.most in
    let files = told c.args.files.now in
    let opened = told c.open_game.new.files in
    let mid = told c.prepare.new.files in
    let declined = prepared_on folder most game files opened mid (Declined c.in-Declined.decline)
    c.open_game.ensures.kept.held c.in_ok-game.ensures.causes
    (subst (λ (p : Prepared). IsPrepared folder most game opened mid p) c.in-Declined.is
    c.in_ok-prepared.ensures.prepared) in
    tells folder c.args.order.game.now most files mid game c.in_ok-game.ensures.opened
    c.in-Declined.decline (g.C.Console.told c.args.console.now)
    (g.C.Console.told c.tell_decline.new.console) c.tell_decline.result declined
    (c.prepare.ensures.kept.held ∙ c.open_game.ensures.kept.held) c.tell_decline.ensures
