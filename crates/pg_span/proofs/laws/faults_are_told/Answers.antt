use Rattle.pg_span.proofs.Told.{valid-unflawed, first_flaw-one}
use Rattle.pg_span.proofs.laws.faults_are_told.Goals as goal

pub returns-clause-valid : goal.returns-clause-valid
returns-clause-valid c g cert claim why valid first = valid-unflawed g cert claim why valid first

pub returns-clause-one : goal.returns-clause-one
returns-clause-one c g cert claim other why how first second =
    first_flaw-one g cert claim other why how first second
