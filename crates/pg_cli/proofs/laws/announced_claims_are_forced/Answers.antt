use Rattle.pg_cli.proofs.Forced.{announced}
use Rattle.pg_cli.proofs.laws.announced_claims_are_forced.Goals as goal

pub returns : goal.returns
returns c = announced c.reads_within_limits.ensures c.valid_claims_are_forced.ensures
    c.announced_family_claims_are_forced.ensures
