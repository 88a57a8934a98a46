use Rattle.std.proofs.Common.{◌≤◌, length}
use Rattle.pg_play_tree.specs.Places.{AreFound}
use Rattle.pg_play_tree.proofs.exploring.expand.Given as goal

abbrev pub invariant-loop-v : goal.invariant-loop-v
invariant-loop-v l = record {
  found : AreFound l.checked.game.now l.checked.cert.now l.side l.places.items;
  longer : length l.fn.places.items ≤ length l.places.items;
  few : length l.places.items ≤ l.most;
}
