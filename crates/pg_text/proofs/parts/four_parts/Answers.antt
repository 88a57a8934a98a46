use Rattle.std.proofs.Common.{arith}
use Rattle.pg_text.proofs.Cuts.{four_none, four_one, four_two, four_three}
use Rattle.pg_text.proofs.parts.four_parts.Goals as goal

pub returns-in_err-first : goal.returns-in_err-first
returns-in_err-first c = grind (arith, four_none)

pub returns-in_err-second : goal.returns-in_err-second
returns-in_err-second c = grind (arith, four_one)

pub returns-in_err-third : goal.returns-in_err-third
returns-in_err-third c = grind (arith, four_two)

pub returns : goal.returns
returns c = grind (arith, four_three)
