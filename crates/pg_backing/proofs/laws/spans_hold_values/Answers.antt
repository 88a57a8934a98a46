use Rattle.pg_backing.proofs.Scores.{all_within, met_within, reached_within, shown_within}
use Rattle.pg_backing.proofs.laws.spans_hold_values.Goals as goal

pub returns-clause-all : goal.returns-clause-all
returns-clause-all c = all_within

pub returns-clause-reached : goal.returns-clause-reached
returns-clause-reached c = reached_within

pub returns-clause-met : goal.returns-clause-met
returns-clause-met c = met_within

pub returns-clause-shown : goal.returns-clause-shown
returns-clause-shown c = shown_within
