use Rattle.std.proofs.Common.{arith}
use Rattle.std.proofs.lemmas.List.Sorted.{length_permutation}
use Rattle.pg_files.proofs.SetLaws.{repeats_from_twice, sorted_is_ascending}
use Rattle.pg_files.proofs.sets.line_of.Goals as goal

pub returns-in-Ok-clause-line : goal.returns-in-Ok-clause-line
returns-in-Ok-clause-line c = grind (arith, sorted_is_ascending)

pub returns-in-Ok-clause-length : goal.returns-in-Ok-clause-length
returns-in-Ok-clause-length c = grind (arith, length_permutation)

pub unreachable-requires : goal.unreachable-requires
unreachable-requires c = grind (arith, repeats_from_twice)
