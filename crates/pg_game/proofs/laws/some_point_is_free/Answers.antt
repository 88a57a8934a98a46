use Rattle.pg_game.proofs.Strategy.{free_point}
use Rattle.pg_game.proofs.laws.some_point_is_free.Goals as goal

pub returns : goal.returns
returns c = free_point
