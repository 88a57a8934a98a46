use Rattle.std.proofs.Common.{◌≡◌, ◌≤◌, take}
use Rattle.pg_threat.proofs.Common.{count_by, is_on, line_at}
use Rattle.pg_threat.specs.Search.{points_of_line}
use Rattle.pg_threat.proofs.served.points_on.Given as goal

abbrev pub invariant-loop-v : goal.invariant-loop-v
invariant-loop-v l = (l.count
    ≡ count_by (λ x. is_on x (line_at l.b.game l.line)) (take l.v-index (points_of_line l.t)))
    × (l.count ≤ l.v-index)
