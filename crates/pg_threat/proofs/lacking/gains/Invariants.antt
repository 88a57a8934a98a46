use Rattle.std.proofs.Common.{◌≡◌, false, take}
use Rattle.pg_threat.proofs.Common.{list_any, lines_of, line_at, lines_holding}
use Rattle.pg_threat.specs.Lacking.{is_gained}
use Rattle.pg_threat.proofs.lacking.gains.Given as goal

abbrev pub invariant-loop-line : goal.invariant-loop-line
invariant-loop-line l = list_any (λ i. is_gained l.b.stand.position l.side l.u (line_at l.b.game i))
    (take l.line-index (lines_holding (lines_of l.b.game) l.v)) ≡ false
