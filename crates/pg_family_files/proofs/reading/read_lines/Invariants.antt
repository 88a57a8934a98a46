use Rattle.std.proofs.Common.{◌≡◌, ◌+◌, ◌≤◌, length}
use Rattle.pg_family_files.proofs.Common.{lines, reading}
use Rattle.pg_family_files.specs.FamilyFile.{nothing, after}
use Rattle.pg_family_files.specs.Views.{view}
use Rattle.pg_family_files.proofs.reading.read_lines.Given as goal

abbrev pub invariant-loop-line : goal.invariant-loop-line
invariant-loop-line l = record {
  so_far : reading (after l.family) (l.number + 1) (view l.draft) l.line-iterator
      ≡ reading (after l.family) 1 nothing (lines l.text);
  count : l.number + length l.line-iterator ≤ length (lines l.text);
}
