use Rattle.pg_span.proofs.Told.{class-told}
use Rattle.pg_span.proofs.laws.claims_tell_the_class.Goals as goal

pub returns : goal.returns
returns c g class cert due valid = class-told g class cert due valid
