use Rattle.std.proofs.Common.{◌<◌, ◌≤◌, length}
use Rattle.pg_play_tree.specs.Places.{AreFound}
use Rattle.pg_play_tree.proofs.exploring.explore.Given as goal

abbrev pub invariant-loop-k : goal.invariant-loop-k
invariant-loop-k l = record {
  index : l.k < length l.places.items;
  found : AreFound l.checked.game.now l.checked.cert.now l.side l.places.items;
  few : l.k < l.most → length l.places.items ≤ l.most;
}
