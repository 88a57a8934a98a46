use Rattle.pg_span.proofs.ClassLemmas.{forced-by, place}
use Rattle.pg_span.specs.Game.{marks_at}
use Rattle.pg_span.proofs.laws.valid_claims_force.Goals as goal

pub returns : goal.returns
returns c g claim valid =
    forced-by g claim.side (marks_at g claim.turn) claim.body (place g claim.turn) valid
