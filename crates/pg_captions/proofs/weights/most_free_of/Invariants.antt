use Rattle.std.proofs.Common.{◌≡◌, ◌≤◌, max, drop}
use Rattle.pg_game.specs.Potential.{greatest_length}
use Rattle.pg_captions.specs.Lightest.{most_free}
use Rattle.pg_captions.proofs.weights.most_free_of.Given as goal

abbrev pub invariant-loop-line : goal.invariant-loop-line
invariant-loop-line l = record {
  most : max l.most (most_free l.own l.p (drop l.line-index l.lines)) ≡ most_free l.own l.p l.lines;
  few : l.most ≤ greatest_length l.lines;
}
