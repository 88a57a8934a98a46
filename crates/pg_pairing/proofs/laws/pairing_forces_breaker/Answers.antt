use Rattle.pg_pairing.proofs.PairLaws.{Forces-pairs_breaker}
use Rattle.pg_pairing.proofs.laws.pairing_forces_breaker.Goals as goal

pub returns : goal.returns
returns c = Forces-pairs_breaker
