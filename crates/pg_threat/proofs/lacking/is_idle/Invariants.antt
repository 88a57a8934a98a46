use Rattle.std.proofs.Common.{◌≡◌, ◌<◌, ◌≤◌, ◌+◌, ℕ, length, get_or}
use Rattle.pg_threat.proofs.Common.{other, MakerMaker, lines_of, line_at, lines_holding}
use Rattle.pg_threat.specs.Lacking.{own_count, IsOutOfReach}
use Rattle.pg_threat.proofs.lacking.is_idle.Given as goal

abbrev pub invariant-loop-line : goal.invariant-loop-line
invariant-loop-line l = (i : ℕ) → i < l.line-index
    → IsOutOfReach l.b.stand.position l.side l.u (l.depth + 1)
    (line_at l.b.game (get_or (lines_holding (lines_of l.b.game) l.v) i 0))
    × (l.b.game.kind ≡ MakerMaker
    → own_count l.b.stand.position (other l.side)
    (line_at l.b.game (get_or (lines_holding (lines_of l.b.game) l.v) i 0)) + l.depth
    ≤ length (line_at l.b.game (get_or (lines_holding (lines_of l.b.game) l.v) i 0)))
