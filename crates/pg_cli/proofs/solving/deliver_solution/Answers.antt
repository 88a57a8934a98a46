use Rattle.std.proofs.Common.{refl, ◌∙◌, subst}
use Rattle.pg_cli.proofs.Common.{err_from_is_err_and, Bytes, Memory, printed_certificate, Does}
use Rattle.pg_cli.proofs.Common.{Delivers, texts_of, stopped_first}
use Rattle.pg_cli.proofs.solving.deliver_solution.Goals as goal

pub returns-in_err-text-clause-delivered : goal.returns-in_err-text-clause-delivered
returns-in_err-text-clause-delivered g c =
    let p = err_from_is_err_and c.from_residual.result c.from_residual.ensures.1 in
    rw (p.1, p.2) (stopped_first (Delivers (
      c.args.name.now,
      printed_certificate c.args.certificate.now,
    ) (texts_of c.args.message c.args.further)) (g.F.Files.told c.args.files.now)
    (g.F.Files.told c.args.files.now) (g.C.Console.told c.args.console.now)
    (g.C.Console.told c.args.console.now) Memory refl refl refl)

pub returns-clause-delivered : goal.returns-clause-delivered
returns-clause-delivered g c = subst
    (λ (b : Bytes). Does (Delivers (c.args.name.now, b) (texts_of c.args.message c.args.further))
    (g.F.Files.told c.args.files.now) (g.F.Files.told c.deliver.new.files)
    (g.C.Console.told c.args.console.now) (g.C.Console.told c.deliver.new.console) c.deliver.result)
    (c.deref.ensures.value ∙ c.in_ok-text.ensures) c.deliver.ensures.delivered
