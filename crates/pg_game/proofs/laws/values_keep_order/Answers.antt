use Rattle.pg_game.proofs.NoWorse.{value-no_worse_x, value-no_worse_y}
use Rattle.pg_game.proofs.laws.values_keep_order.Goals as goal

pub returns : goal.returns
returns c = record { x = value-no_worse_x; y = value-no_worse_y }
