use Rattle.std.proofs.Common.{ℕ, ◌<◌}
use Rattle.pg_game.specs.Threat.{Filling}
use Rattle.pg_plain.proofs.threat_search.can_fill.Given as goal

abbrev pub invariant-loop-v : goal.invariant-loop-v
invariant-loop-v l = (w : ℕ) → w < l.v → Filling l.g l.p l.side w → ⊥
