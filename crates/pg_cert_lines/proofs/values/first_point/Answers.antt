use Rattle.std.proofs.Common.{arith}
use Rattle.pg_cert_lines.proofs.Outlines.{point_first}
use Rattle.pg_cert_lines.proofs.values.first_point.Goals as goal

pub returns-then-n-from : goal.returns-then-n-from
returns-then-n-from c = point_first c.args.text.now c.in-Some.n c.in-Some.others c.in-Some.ensures
    (omega (arith, c.if-n-from.true, c.from.ensures))
