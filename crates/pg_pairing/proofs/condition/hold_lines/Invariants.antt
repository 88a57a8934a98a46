use Rattle.std.proofs.Common.{◌<◌, ℕ, List, get_or}
use Rattle.pg_pairing.proofs.Common.{points_of, lines_of, IsSafe, breaker_of}
use Rattle.pg_pairing.proofs.condition.hold_lines.Given as goal

abbrev pub invariant-loop-line : goal.invariant-loop-line
invariant-loop-line l = (j : ℕ) (d : List ℕ) → j < l.line-index
    → IsSafe (points_of l.p (breaker_of l.g.kind l.fn.side)) l.pairs (get_or (lines_of l.g) j d)
