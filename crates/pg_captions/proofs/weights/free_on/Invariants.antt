use Rattle.std.proofs.Common.{◌≡◌, ◌≤◌, false, take}
use Rattle.pg_captions.proofs.Common.{count_by, list_any, contains, is_free}
use Rattle.pg_captions.proofs.weights.free_on.Given as goal

abbrev pub invariant-loop-v : goal.invariant-loop-v
invariant-loop-v l = record {
  untouched : list_any (contains l.own) (take l.v-index l.line) ≡ false;
  free : l.free ≡ count_by (is_free l.p) (take l.v-index l.line);
  few : l.free ≤ l.v-index;
}
