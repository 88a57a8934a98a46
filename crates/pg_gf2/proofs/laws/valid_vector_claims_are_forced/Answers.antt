use Rattle.pg_gf2.proofs.LawLemmas.{claim_forces}
use Rattle.pg_gf2.proofs.laws.valid_vector_claims_are_forced.Goals as goal

pub returns : goal.returns
returns c g cert valid i claim at = claim_forces g cert.version claim (valid i claim at)
