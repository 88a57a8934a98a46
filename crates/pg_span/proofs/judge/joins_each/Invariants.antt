use Rattle.std.proofs.Common.{◌≡◌, ℕ, ◌<◌}
use Rattle.pg_span.proofs.Common.{contains, IsJoinedIn}
use Rattle.pg_span.proofs.judge.joins_each.Given as goal

abbrev pub invariant-loop-v : goal.invariant-loop-v
invariant-loop-v l =
    (l.joiner ≡ l.fn.joiner) × ((q : ℕ) → q < l.v → IsJoinedIn l.graph (contains l.set) 0 q)
