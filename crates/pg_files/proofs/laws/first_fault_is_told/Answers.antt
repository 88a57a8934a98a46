use Rattle.pg_files.proofs.FirstFault.{first_of_file, whole_of_file}
use Rattle.pg_files.proofs.laws.first_fault_is_told.Goals as goal

pub returns : goal.returns
returns c = record {
  line = λ text fault number e some. first_of_file text fault number e some;
  whole = λ text fault e. whole_of_file text fault e;
}
