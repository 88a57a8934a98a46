use Rattle.std.proofs.Common.{◌≡◌, ◌≤◌, [], get_or}
use Rattle.pg_scene.specs.Items.{lane_after}
use Rattle.pg_scene.proofs.lines.lane_of.Given as goal

abbrev pub invariant-loop-j : goal.invariant-loop-j
invariant-loop-j l = record {
  lane : l.lane ≡ lane_after l.lines l.j (get_or l.lines l.i []);
  few : l.lane ≤ l.j;
}
