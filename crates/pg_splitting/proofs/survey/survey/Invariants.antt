use Rattle.pg_io.specs.Causes.{IsLater}
use Rattle.pg_io.specs.Files.{ReadsOnly}
use Rattle.pg_splitting.proofs.survey.survey.Given as goal

abbrev pub invariant-loop-i : goal.invariant-loop-i
invariant-loop-i g l = record {
  later : IsLater (g.F.Files.told l.initial.files).faults (g.F.Files.told l.files).faults;
  kept : ReadsOnly (g.F.Files.told l.initial.files) (g.F.Files.told l.files);
}
