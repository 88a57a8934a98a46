use Rattle.std.proofs.Common.{◌≡◌, false, take}
use Rattle.pg_game.proofs.Common.{count_by, list_any, contains}
use Rattle.pg_game.specs.Position.{is_free}
use Rattle.pg_game.proofs.weights.line_weight.Given as goal

abbrev pub invariant-loop-v : goal.invariant-loop-v
invariant-loop-v l = record {
  untouched : list_any (contains l.own) (take l.v-index l.line) ≡ false;
  free : l.free ≡ count_by (is_free l.p) (take l.v-index l.line);
}
