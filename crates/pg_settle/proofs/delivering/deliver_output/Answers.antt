use Rattle.std.proofs.Common.{[], ◌∷◌, List, subst, sym}
use Rattle.pg_settle.proofs.Common.{Bytes, Delivers, Does}
use Rattle.pg_settle.specs.Outputs.{texts_of_output}
use Rattle.pg_settle.specs.declared.output.Output.{Output}
use Rattle.pg_settle.proofs.delivering.deliver_output.Goals as goal

pub returns-in-Messages-clause-delivered : goal.returns-in-Messages-clause-delivered
returns-in-Messages-clause-delivered g c = subst
    (λ (o : Output). Does (Delivers (c.args.name.now, c.args.text.now) (texts_of_output o))
    (g.F.Files.told c.args.files.now) (g.F.Files.told c.deliver.new.files)
    (g.C.Console.told c.args.console.now) (g.C.Console.told c.deliver.new.console)
    c.deliver.result) (sym c.in-Messages.is) c.deliver.ensures.delivered

pub returns-in-Json-clause-delivered : goal.returns-in-Json-clause-delivered
returns-in-Json-clause-delivered g c = subst
    (λ (o : Output). Does (Delivers (c.args.name.now, c.args.text.now) (texts_of_output o))
    (g.F.Files.told c.args.files.now) (g.F.Files.told c.deliver_line.new.files)
    (g.C.Console.told c.args.console.now) (g.C.Console.told c.deliver_line.new.console)
    c.deliver_line.result) (sym c.in-Json.is)
    (subst (λ (t : Bytes). Does (Delivers (c.args.name.now, c.args.text.now) (t ∷ []))
    (g.F.Files.told c.args.files.now) (g.F.Files.told c.deliver_line.new.files)
    (g.C.Console.told c.args.console.now) (g.C.Console.told c.deliver_line.new.console)
    c.deliver_line.result) c.as_str.ensures.value c.deliver_line.ensures.delivered)
