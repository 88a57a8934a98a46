use Rattle.pg_family_files.specs.FamilyFile.{span_of, vectors_of, whole}
use Rattle.pg_family_files.specs.declared.family.Family.TheVariants as families
use Rattle.pg_family_files.proofs.FirstFault.{first_of_file, whole_of_file, made_err}
use Rattle.pg_family_files.proofs.laws.first_fault_is_told.Goals as goal

pub returns : goal.returns
returns c = record {
  span_line = λ text fault number e some. first_of_file families.Connectivity text fault number
      (made_err span_of (whole families.Connectivity text) fault number e) some;
  span_whole = λ text fault e. whole_of_file families.Connectivity text fault
      (made_err span_of (whole families.Connectivity text) fault 0 e);
  vectors_line = λ text fault number e some. first_of_file families.Vectors text fault number
      (made_err vectors_of (whole families.Vectors text) fault number e) some;
  vectors_whole = λ text fault e. whole_of_file families.Vectors text fault
      (made_err vectors_of (whole families.Vectors text) fault 0 e);
}
