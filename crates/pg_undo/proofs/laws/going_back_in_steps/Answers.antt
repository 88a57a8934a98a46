use Rattle.pg_undo.proofs.Undoing.{back_to-back_to}
use Rattle.pg_undo.proofs.laws.going_back_in_steps.Goals as goal

pub returns : goal.returns
returns c = back_to-back_to
