use Rattle.std.proofs.Common.{◌<◌, ℕ, get_or}
use Rattle.pg_threat.proofs.Common.{line_at, lines_holding, lines_of}
use Rattle.pg_threat.specs.Search.{points_of_line}
use Rattle.pg_threat.specs.Serving.{IsSlowOn}
use Rattle.pg_threat.proofs.served.is_apart.Given as goal

abbrev pub invariant-loop-line : goal.invariant-loop-line
invariant-loop-line l = (i : ℕ) → i < l.line-index
    → IsSlowOn l.b.stand.position l.side (points_of_line l.t)
    (line_at l.b.game (get_or (lines_holding (lines_of l.b.game) l.v) i 0))
