use Rattle.std.proofs.Common.{◌∙◌, ℕ, ap₂, refl, subst, sym}
use Rattle.pg_io.specs.declared.stop.Stop.TheVariants.{Memory}
use Rattle.pg_settle.proofs.Common.{Bytes, err_from_is_err_and, stopped_first}
use Rattle.pg_settle.specs.Findings.{IsKeptAs}
use Rattle.pg_settle.specs.Outputs.{class_texts, texts_of_output}
use Rattle.pg_settle.specs.Settling.{SettlesSwitching, form_of}
use Rattle.pg_settle.proofs.Settles.{class_file, delivers_class}
use Rattle.pg_settle.proofs.switching.settle_switching.Goals as goal

pub returns-in_err-found-clause-settled : goal.returns-in_err-found-clause-settled
returns-in_err-found-clause-settled g c =
    let p = err_from_is_err_and c.from_residual.result c.from_residual.ensures.1 in
    rw (p.1, p.2)
    (stopped_first
    (SettlesSwitching
    (form_of c.args.order.images c.args.order.json c.args.order.game.now) c.args.game.now
    c.args.order.certificate.now)
    (g.F.Files.told c.args.files.now) (g.F.Files.told c.args.files.now)
    (g.C.Console.told c.args.console.now) (g.C.Console.told c.args.console.now) Memory refl refl
    refl)

pub returns-in_err-text-clause-settled : goal.returns-in_err-text-clause-settled
returns-in_err-text-clause-settled g c =
    let p = err_from_is_err_and c.from_residual-in_err-text.result
    c.from_residual-in_err-text.ensures.1 in
    rw (p.1, p.2)
    (stopped_first
    (SettlesSwitching
    (form_of c.args.order.images c.args.order.json c.args.order.game.now) c.args.game.now
    c.args.order.certificate.now)
    (g.F.Files.told c.args.files.now) (g.F.Files.told c.args.files.now)
    (g.C.Console.told c.args.console.now) (g.C.Console.told c.args.console.now) Memory refl refl
    refl)

pub file_of-requires-clause-valid : goal.file_of-requires-clause-valid
file_of-requires-clause-valid g c = c.in_ok-found.ensures.shows.valid

pub file_of-requires-clause-limits : goal.file_of-requires-clause-limits
file_of-requires-clause-limits g c = c.in_ok-found.ensures.shows.limits

pub node_count-nodes-requires : goal.node_count-nodes-requires
node_count-nodes-requires g c = c.in_ok-found.ensures.shows.limits.nodes

pub returns-in_err-output-clause-settled : goal.returns-in_err-output-clause-settled
returns-in_err-output-clause-settled g c =
    let p = err_from_is_err_and c.from_residual-in_err-output.result
    c.from_residual-in_err-output.ensures.1 in
    rw (p.1, p.2)
    (stopped_first
    (SettlesSwitching
    (form_of c.args.order.images c.args.order.json c.args.order.game.now) c.args.game.now
    c.args.order.certificate.now)
    (g.F.Files.told c.args.files.now) (g.F.Files.told c.args.files.now)
    (g.C.Console.told c.args.console.now) (g.C.Console.told c.args.console.now) Memory refl refl
    refl)

pub returns-clause-settled : goal.returns-clause-settled
returns-clause-settled g c =
    let played = c.args.game.now in
    let found = c.in_ok-found.found in
    let shows = c.in_ok-found.ensures in
    let form = form_of c.args.order.images c.args.order.json c.args.order.game.now in
    let kept = class_file c.args.order.images played found.0 found.1 c.deref.result.now shows
    (subst (λ (t : Bytes). IsKeptAs c.args.order.images played found.1 t)
    (sym c.deref.ensures.value) c.in_ok-text.ensures) in
    delivers_class form played c.args.order.certificate.now found.0 found.1 c.deref.result.now
    (texts_of_output c.in_ok-output.output)
    (g.F.Files.told c.args.files.now) (g.F.Files.told c.deliver_output.new.files)
    (g.C.Console.told c.args.console.now) (g.C.Console.told c.deliver_output.new.console)
    c.deliver_output.result shows kept
    (c.in_ok-output.ensures
    ∙ ap₂ (λ (n b : ℕ). class_texts form.json played found.0 n b) c.node_count-nodes.ensures
    (c.len-bytes.ensures ∙ sym c.deref.ensures.len)) c.deliver_output.ensures.delivered
