use Rattle.std.proofs.Common.{◌≡◌, ◌++◌, map}
use Rattle.pg_scene.proofs.Common.{range_with_len}
use Rattle.pg_scene.specs.Items.{lane_of, line_item}
use Rattle.pg_scene.proofs.lines.put_lines.Given as goal

abbrev pub invariant-loop-i : goal.invariant-loop-i
invariant-loop-i l = record {
  items : l.items.items ≡ l.fn.items.items ++ map (line_item l.lines) (range_with_len 0 l.i);
  lanes : l.lanes.items ≡ map (lane_of l.lines) (range_with_len 0 l.i);
}
