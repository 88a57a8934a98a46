use Rattle.pg_undo.proofs.Undoing.{back_to-with_set}
use Rattle.pg_undo.proofs.laws.changes_keep_earlier_levels.Goals as goal

pub returns : goal.returns
returns c = λ t level i v low room. back_to-with_set level t i v low room
