use Rattle.std.proofs.Common.{refl}
use Rattle.pg_gen.proofs.Ascending.{next_of, one_more_of}
use Rattle.pg_scene.specs.Items.{lane_of, line_item}
use Rattle.pg_scene.proofs.lines.put_lines.Goals as goal

pub loop-i-preserved : goal.loop-i-preserved
loop-i-preserved c = record {
  items = next_of (line_item c.args.lines.now) c.loop-i.i c.args.items.now.items _ _ _
      c.in_ok-put_line_of.ensures c.loop-i.invariant.items refl;
  lanes = one_more_of (lane_of c.args.lines.now) c.loop-i.i _ _ _
      c.in_ok-push.ensures.items c.loop-i.invariant.lanes c.lane_of-lane.ensures.lane;
}
