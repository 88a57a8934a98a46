use Rattle.std.proofs.Common.{◌≡◌, ◌≤◌, take}
use Rattle.std.specs.Prelude.{nat_eq}
use Rattle.pg_scene.proofs.Common.{count_by, list_any}
use Rattle.pg_scene.proofs.lines.overlap.Given as goal

abbrev pub invariant-loop-v : goal.invariant-loop-v
invariant-loop-v l = record {
  common : l.common ≡ count_by (λ v. list_any (nat_eq v) l.other) (take l.v-index l.line);
  few : l.common ≤ l.v-index;
}
