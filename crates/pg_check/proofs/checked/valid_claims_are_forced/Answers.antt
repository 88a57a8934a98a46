use Rattle.pg_check.proofs.ForcedNodes.{Forces-claims}
use Rattle.pg_check.proofs.checked.valid_claims_are_forced.Goals as goal

pub returns : goal.returns
returns c = Forces-claims
