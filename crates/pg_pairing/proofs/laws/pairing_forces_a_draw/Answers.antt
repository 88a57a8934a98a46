use Rattle.pg_pairing.proofs.PairLaws.{Forces-pairs_draw}
use Rattle.pg_pairing.proofs.laws.pairing_forces_a_draw.Goals as goal

pub returns : goal.returns
returns c = Forces-pairs_draw
