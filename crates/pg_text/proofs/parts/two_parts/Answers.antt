use Rattle.std.proofs.Common.{arith}
use Rattle.pg_text.proofs.Cuts.{no_parts, just_two, too_many}
use Rattle.pg_text.proofs.parts.two_parts.Goals as goal

pub returns-in_default : goal.returns-in_default
returns-in_default c = grind (arith, no_parts)

pub returns-in-Some-cut_at : goal.returns-in-Some-cut_at
returns-in-Some-cut_at c = grind (arith, too_many)

pub returns-in-None : goal.returns-in-None
returns-in-None c = grind (arith, just_two)
