use Rattle.pg_potential.proofs.AvoiderLaws.{Forces-avoider}
use Rattle.pg_potential.proofs.laws.avoider_potential_forces.Goals as goal

pub returns : goal.returns
returns c = Forces-avoider
