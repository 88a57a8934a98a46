use Rattle.pg_unfold.proofs.FirstFaults.{no_fault, one_fault}
use Rattle.pg_unfold.proofs.laws.faults_are_told.Goals as goal

pub returns-clause-none : goal.returns-clause-none
returns-clause-none c = no_fault

pub returns-clause-one : goal.returns-clause-one
returns-clause-one c = one_fault
