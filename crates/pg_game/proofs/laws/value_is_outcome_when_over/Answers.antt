use Rattle.pg_game.proofs.ValueLaws.{value-over}
use Rattle.pg_game.proofs.laws.value_is_outcome_when_over.Goals as goal

pub returns : goal.returns
returns c = value-over
