use Rattle.std.proofs.Common.{arith}
use Rattle.pg_cert_lines.proofs.NearCuts.{two_none, two_just, two_many}
use Rattle.pg_cert_lines.proofs.form.two_near.Goals as goal

pub returns-in_default : goal.returns-in_default
returns-in_default c = grind (arith, two_none)

pub returns-in-Some-cut_at : goal.returns-in-Some-cut_at
returns-in-Some-cut_at c = grind (arith, two_many)

pub returns-in-None : goal.returns-in-None
returns-in-None c = grind (arith, two_just)
