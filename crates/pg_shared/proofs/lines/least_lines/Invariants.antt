use Rattle.std.specs.List.{All, Contains}
use Rattle.pg_shared.proofs.lines.least_lines.Given as goal

abbrev pub invariant-loop-i : goal.invariant-loop-i
invariant-loop-i l = All (Contains l.lines) l.kept.items
