use Rattle.pg_pairing.proofs.PairLaws.{Forces-pairs_avoider}
use Rattle.pg_pairing.proofs.laws.pairing_forces_avoider.Goals as goal

pub returns : goal.returns
returns c = Forces-pairs_avoider
