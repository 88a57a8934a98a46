use Rattle.pg_game.proofs.NoWorse.{Forces-no_worse}
use Rattle.pg_game.proofs.laws.no_worse_positions_force.Goals as goal

pub returns : goal.returns
returns c = Forces-no_worse
