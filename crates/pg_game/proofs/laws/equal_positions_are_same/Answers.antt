use Rattle.pg_game.specs.PositionLemmas.{equal_positions-decides}
use Rattle.pg_game.proofs.laws.equal_positions_are_same.Goals as goal

pub returns : goal.returns
returns c = equal_positions-decides
