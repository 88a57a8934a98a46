use Rattle.std.proofs.Common.{rules}
use Rattle.std.proofs.lemmas.Result.{IfOk-weaker}
use Rattle.pg_io.proofs.Pouring.{pours_name}
use Rattle.pg_io.proofs.reading.pour.Goals as goal

pub returns-clause-poured : goal.returns-clause-poured
returns-clause-poured g c = IfOk-weaker _ _ _
    (λ u goes. pours_name (g.F.Files.told c.args.files.now).held c.args.name.now _ c.open.result
    c.args.limit g.S.Sink.took _ _ c.open.ensures.opened
    (search (rules, c.is_err.ensures.value, c.if-is_err.false)) goes) c.pour_open.ensures.poured
