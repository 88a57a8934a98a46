use Rattle.std.proofs.Common.{◌≡◌, ◌<◌, ℕ, false}
use Rattle.pg_game.specs.Position.{is_free}
use Rattle.pg_game.proofs.position.Position.lowest_free_below.Given as goal

abbrev pub invariant-loop-v : goal.invariant-loop-v
invariant-loop-v l = (q : ℕ) → q < l.v → is_free l.self q ≡ false
