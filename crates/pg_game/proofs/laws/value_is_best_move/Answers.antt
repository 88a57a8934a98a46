use Rattle.pg_game.proofs.ValueLaws.{value-step}
use Rattle.pg_game.proofs.laws.value_is_best_move.Goals as goal

pub returns : goal.returns
returns c = value-step
