use Rattle.pg_settle.proofs.Headings.{shown_value}
use Rattle.pg_settle.proofs.laws.shown_scores_are_values.Goals as goal

pub returns : goal.returns
returns c = shown_value c.valid_claims_are_forced.ensures
