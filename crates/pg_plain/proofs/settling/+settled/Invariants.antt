use Rattle.std.proofs.Common.{◌≡◌, ◌≤◌, length}
use Rattle.pg_game.specs.Game.{free_points, point_count}
use Rattle.pg_plain.proofs.SettleSteps.{known_from}
use Rattle.pg_plain.proofs.settling.+settled.Given as goal

abbrev pub decreases-settled : goal.decreases-settled
decreases-settled l = length (free_points l.g.now l.p.now)

abbrev pub invariant-loop-v : goal.invariant-loop-v
invariant-loop-v l = record {
  range : l.v ≤ point_count l.g;
  known : l.known ≡ known_from l.g l.wanted l.table l.p l.v;
  kept : l.judge ≡ l.initial.judge;
}
