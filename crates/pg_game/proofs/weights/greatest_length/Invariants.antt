use Rattle.std.proofs.Common.{◌≡◌, max, drop}
use Rattle.pg_game.specs.Potential.{greatest_length}
use Rattle.pg_game.proofs.weights.greatest_length.Given as goal

abbrev pub invariant-loop-line : goal.invariant-loop-line
invariant-loop-line l =
    max l.longest (greatest_length (drop l.line-index l.lines)) ≡ greatest_length l.lines
