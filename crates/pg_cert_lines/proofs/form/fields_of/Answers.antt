use Rattle.std.proofs.Common.{arith}
use Rattle.pg_cert_lines.proofs.NearCuts.{four_of_none, four_of_one, four_of_two, four_of_three}
use Rattle.pg_cert_lines.proofs.form.fields_of.Goals as goal

pub returns-in_err-x : goal.returns-in_err-x
returns-in_err-x c = grind (arith, four_of_none)

pub returns-in_err-y : goal.returns-in_err-y
returns-in_err-y c = grind (arith, four_of_one)

pub returns-in_err-turn : goal.returns-in_err-turn
returns-in_err-turn c = grind (arith, four_of_two)

pub returns : goal.returns
returns c = grind (arith, four_of_three)
