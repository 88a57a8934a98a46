use Rattle.pg_game.proofs.ValueLaws.{Forces-move, Forces-move-from}
use Rattle.pg_game.proofs.laws.mover_forces_by_a_move.Goals as goal

pub returns : goal.returns
returns c = λ g p side goal going mine. (
  Forces-move-from g p side goal going mine,
  λ w. Forces-move g p side goal going mine w.0 w.1 w.2 w.3,
)
