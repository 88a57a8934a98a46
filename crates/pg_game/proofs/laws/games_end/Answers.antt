use Rattle.std.proofs.Common.{arith}
use Rattle.pg_game.proofs.FreePoints.{length-free_points-after}
use Rattle.pg_game.proofs.Strategy.{length-legal_play}
use Rattle.pg_game.proofs.laws.games_end.Goals as goal

pub returns : goal.returns
returns c = record {
  fewer = λ g p v range free. let one = length-free_points-after g p v range free in omega arith;
  plays = length-legal_play;
}
