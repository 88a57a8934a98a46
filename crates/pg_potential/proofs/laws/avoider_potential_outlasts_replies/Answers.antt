use Rattle.pg_potential.proofs.AvoiderLaws.{kept-y}
use Rattle.pg_potential.proofs.laws.avoider_potential_outlasts_replies.Goals as goal

pub returns : goal.returns
returns c = kept-y
