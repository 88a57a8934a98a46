use Rattle.pg_image.proofs.First.{first_told}
use Rattle.pg_image.proofs.laws.names_the_first_fault.Goals as goal

pub returns : goal.returns
returns c = first_told
