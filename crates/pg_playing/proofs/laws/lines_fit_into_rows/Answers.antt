use Rattle.pg_playing.proofs.Rows.{answers_fit, screens_fit}
use Rattle.pg_playing.proofs.laws.lines_fit_into_rows.Goals as goal

pub returns-clause-screens : goal.returns-clause-screens
returns-clause-screens c = λ g shown ending wide few. screens_fit g shown ending wide few

pub returns-clause-answers : goal.returns-clause-answers
returns-clause-answers c = λ g p note few. answers_fit g p note few
