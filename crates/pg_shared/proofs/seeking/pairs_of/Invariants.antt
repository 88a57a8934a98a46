use Rattle.std.proofs.Common.{◌<◌}
use Rattle.std.specs.List.{All}
use Rattle.pg_shared.proofs.seeking.pairs_of.Given as goal

abbrev pub invariant-loop-choice : goal.invariant-loop-choice
invariant-loop-choice l = All (λ s. (s.a < 1024) × (s.b < 1024)) l.pairs.items
