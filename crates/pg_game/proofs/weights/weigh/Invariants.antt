use Rattle.std.proofs.Common.{◌≡◌, ◌<◌, ℕ, length, get_or, take, if◌then◌else◌}
use Rattle.std.specs.List.{sum_by}
use Rattle.pg_game.specs.Potential.{is_on, line_weight}
use Rattle.pg_game.proofs.weights.weigh.Given as goal

abbrev pub invariant-loop-line : goal.invariant-loop-line
invariant-loop-line l = record {
  total : l.total ≡ sum_by (line_weight l.base l.longest l.own l.p) (take l.line-index l.lines);
  count : length l.points ≡ 256;
  points : (v : ℕ)
      → v < 256
      → get_or l.points v 0
      ≡ sum_by (λ line. if is_on v line then line_weight l.base l.longest l.own l.p line else 0)
      (take l.line-index l.lines);
}
