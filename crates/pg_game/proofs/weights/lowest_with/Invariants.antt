use Rattle.std.proofs.Common.{◌≡◌, ◌==◌, ◌<◌, ◌&&◌, ℕ, false, get_or}
use Rattle.pg_game.specs.Position.{is_free}
use Rattle.pg_game.proofs.weights.lowest_with.Given as goal

abbrev pub invariant-loop-v : goal.invariant-loop-v
invariant-loop-v l = (q : ℕ) → q < l.v → (is_free l.p q && get_or l.points q 0 == l.weight) ≡ false
