use Rattle.pg_potential.proofs.PotentialLaws.{Forces-potential_draw}
use Rattle.pg_potential.proofs.laws.erdos_selfridge_draw.Goals as goal

pub returns : goal.returns
returns c = Forces-potential_draw
