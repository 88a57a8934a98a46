use Rattle.std.proofs.Common.{arith}
use Rattle.pg_text.proofs.FirstLine.{no_lines, last_line, lines_feed}
use Rattle.pg_text.proofs.by_line.first_line.Goals as goal

pub returns-then-is_empty-clause-none : goal.returns-then-is_empty-clause-none
returns-then-is_empty-clause-none c = grind (arith, no_lines)

pub returns-in-Some-clause-first : goal.returns-in-Some-clause-first
returns-in-Some-clause-first c = grind (arith, lines_feed)

pub returns-in-None-clause-first : goal.returns-in-None-clause-first
returns-in-None-clause-first c = grind (arith, last_line)
