use Rattle.std.proofs.Common.{◌∙◌, List, ap, refl}
use Rattle.std.proofs.lemmas.Result.{err_from_is_err_and}
use Rattle.pg_io.specs.declared.stop.Stop.TheVariants.{Memory}
use Rattle.pg_split.specs.declared.numbering.Piece.{Piece}
use Rattle.pg_talk.proofs.Delivering.{stopped_first}
use Rattle.pg_splitting.proofs.Ends.{say_calm, say_cause, store_calm, store_cause}
use Rattle.pg_splitting.proofs.Ran.{all_said, say_stopped, store_stopped}
use Rattle.pg_splitting.specs.SplitRuns.{DeliversSplit}
use Rattle.pg_splitting.specs.Texts.{split_text}
use Rattle.pg_splitting.proofs.running.deliver_split.Goals as goal

pub returns-in_err-text-clause-delivered : goal.returns-in_err-text-clause-delivered
returns-in_err-text-clause-delivered g c =
    let p = err_from_is_err_and c.from_residual.result c.from_residual.ensures.1 in
    rw (p.1, p.2)
    (stopped_first (DeliversSplit c.args.folder.now c.args.game.now c.args.split.now)
    (g.F.Files.told c.args.files.now) (g.F.Files.told c.args.files.now)
    (g.C.Console.told c.args.console.now) (g.C.Console.told c.args.console.now) Memory refl refl
    refl)

pub returns-in_err-store_split-clause-delivered : goal.returns-in_err-store_split-clause-delivered
returns-in_err-store_split-clause-delivered g c =
    let p = err_from_is_err_and c.from_residual-in_err-store_split.result
    c.from_residual-in_err-store_split.ensures.1 in
    rw (p.1, p.2)
    (store_stopped c.args.folder.now c.args.game.now c.args.split.now
    (g.F.Files.told c.args.files.now) (g.F.Files.told c.store_split.new.files)
    (g.C.Console.told c.args.console.now) c.in_err-store_split.field-0.0
    c.in_err-store_split.ensures.stored)

pub returns-in_err-store_split-clause-causes : goal.returns-in_err-store_split-clause-causes
returns-in_err-store_split-clause-causes g c =
    let p = err_from_is_err_and c.from_residual-in_err-store_split.result
    c.from_residual-in_err-store_split.ensures.1 in
    rw (p.1, p.2)
    (store_cause (g.F.Files.told c.args.files.now) (g.F.Files.told c.store_split.new.files)
    (g.C.Console.told c.args.console.now) c.in_err-store_split.field-0.0
    c.in_err-store_split.ensures.causes)

pub returns-in_err-store_split-clause-calm : goal.returns-in_err-store_split-clause-calm
returns-in_err-store_split-clause-calm g c =
    let p = err_from_is_err_and c.from_residual-in_err-store_split.result
    c.from_residual-in_err-store_split.ensures.1 in
    rw (p.1, p.2)
    (store_calm (g.F.Files.told c.args.files.now) (g.F.Files.told c.store_split.new.files)
    c.in_err-store_split.field-0.0 c.in_err-store_split.ensures.causes)

pub returns-in_err-say_text-clause-calm : goal.returns-in_err-say_text-clause-calm
returns-in_err-say_text-clause-calm g c =
    let p = err_from_is_err_and c.from_residual-in_err-say_text.result
    c.from_residual-in_err-say_text.ensures.1 in
    rw (p.1, p.2)
    (say_calm (g.F.Files.told c.args.files.now) (g.F.Files.told c.store_split.new.files)
    c.in_err-say_text.field-0.0 c.in_err-say_text.ensures.write)

pub returns-in_err-say_text-clause-delivered : goal.returns-in_err-say_text-clause-delivered
returns-in_err-say_text-clause-delivered g c =
    let p = err_from_is_err_and c.from_residual-in_err-say_text.result
    c.from_residual-in_err-say_text.ensures.1 in
    rw (p.1, p.2)
    (say_stopped c.args.folder.now c.args.game.now c.args.split.now
    (g.F.Files.told c.args.files.now) (g.F.Files.told c.store_split.new.files)
    (g.C.Console.told c.args.console.now) (g.C.Console.told c.say_text.new.console)
    c.in_err-say_text.field-0.0 c.in_ok-store_split.ensures.stored
    c.in_err-say_text.ensures.said c.in_err-say_text.ensures.left)

pub returns-in_err-say_text-clause-causes : goal.returns-in_err-say_text-clause-causes
returns-in_err-say_text-clause-causes g c =
    let p = err_from_is_err_and c.from_residual-in_err-say_text.result
    c.from_residual-in_err-say_text.ensures.1 in
    rw (p.1, p.2)
    (say_cause ⊥ (g.F.Files.told c.args.files.now) (g.F.Files.told c.store_split.new.files)
    (g.C.Console.told c.args.console.now) (g.C.Console.told c.say_text.new.console)
    c.in_err-say_text.field-0.0 c.in_err-say_text.ensures.write c.in_err-say_text.ensures.causes)

pub returns-clause-delivered : goal.returns-clause-delivered
returns-clause-delivered g c =
    all_said c.args.folder.now c.args.game.now c.args.split.now
    (g.F.Files.told c.args.files.now) (g.F.Files.told c.store_split.new.files)
    (g.C.Console.told c.args.console.now) (g.C.Console.told c.say_text.new.console)
    c.as_str.result.now c.in_ok-store_split.ensures.stored
    (c.as_str.ensures.value ∙ c.in_ok-text.ensures
    ∙ ap (λ (ps : List Piece). split_text c.args.game.now ps) c.as_slice.ensures.value)
    c.in_ok-say_text.ensures.said c.in_ok-say_text.ensures.left
