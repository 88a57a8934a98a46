use Rattle.std.proofs.Common.{◌≡◌, ℕ, take}
use Rattle.pg_threat.proofs.Common.{contains, list_any, lines_of, line_at, lines_holding}
use Rattle.pg_threat.specs.Lacking.{lacks_at}
use Rattle.pg_threat.proofs.lacking.partners.Given as goal

abbrev pub invariant-loop-line : goal.invariant-loop-line
invariant-loop-line l = (u : ℕ) → contains l.lacked.points u
    ≡ list_any (λ i. lacks_at l.b.stand.position l.side 2 u (line_at l.b.game i))
    (take l.line-index (lines_holding (lines_of l.b.game) l.v))
