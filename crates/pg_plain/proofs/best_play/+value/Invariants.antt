use Rattle.std.proofs.Common.{◌≡◌, ◌≤◌, length}
use Rattle.pg_game.specs.Game.{free_points, point_count}
use Rattle.pg_plain.proofs.BestPlay.{best_from}
use Rattle.pg_plain.proofs.best_play.+value.Given as goal

abbrev pub decreases-value : goal.decreases-value
decreases-value l = length (free_points l.g.now l.p.now)

abbrev pub invariant-loop-v : goal.invariant-loop-v
invariant-loop-v l = record {
  range : l.v ≤ point_count l.g;
  best : l.best ≡ best_from l.g l.p l.v;
  kept : l.judge ≡ l.initial.judge;
}
