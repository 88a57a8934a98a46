use Rattle.pg_potential.proofs.PotentialLaws.{Forces-potential_breaker}
use Rattle.pg_potential.proofs.laws.erdos_selfridge_breaker.Goals as goal

pub returns : goal.returns
returns c = Forces-potential_breaker
