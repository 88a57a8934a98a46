use Rattle.pg_families.proofs.Forced.{announced}
use Rattle.pg_families.proofs.laws.announced_family_claims_are_forced.Goals as goal

pub returns : goal.returns
returns c = announced c.valid_claims_force.ensures c.valid_vector_claims_are_forced.ensures
