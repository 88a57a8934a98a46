use Rattle.std.proofs.Common.{◌≡◌, ◌<◌, ◌≤◌, ◌^◌, ◌-◌, length, drop}
use Rattle.pg_family_files.specs.FamilyFile.{signs_value}
use Rattle.pg_family_files.proofs.signs.signs_value.Given as goal

abbrev pub invariant-loop-left : goal.invariant-loop-left
invariant-loop-left l = record {
  within : l.left ≤ length l.word;
  value : l.found ≡ signs_value (drop l.left l.word);
  small : l.found < 2 ^ (length l.word - l.left);
}

abbrev pub decreases-loop-left : goal.decreases-loop-left
decreases-loop-left l = l.left
