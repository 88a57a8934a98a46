use Rattle.pg_characters.proofs.MadeBridges.{is_found}
use Rattle.pg_characters.proofs.laws.bridges_are_found.Goals as goal

pub returns : goal.returns
returns c = is_found
