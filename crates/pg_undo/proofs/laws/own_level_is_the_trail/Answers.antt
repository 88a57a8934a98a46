use Rattle.pg_undo.proofs.Undoing.{back_to-level}
use Rattle.pg_undo.proofs.laws.own_level_is_the_trail.Goals as goal

pub returns : goal.returns
returns c = back_to-level
