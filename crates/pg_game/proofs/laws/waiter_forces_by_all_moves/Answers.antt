use Rattle.pg_game.proofs.ValueLaws.{Forces-all, Forces-all-from}
use Rattle.pg_game.proofs.laws.waiter_forces_by_all_moves.Goals as goal

pub returns : goal.returns
returns c = λ g p side goal going yours.
    (Forces-all-from g p side goal going yours, Forces-all g p side goal going yours)
