use Rattle.std.proofs.Common.{◌≡◌, ◌++◌}
use Rattle.pg_scene.specs.Items.{member_items}
use Rattle.pg_scene.proofs.points.put_members.Given as goal

abbrev pub invariant-loop-v : goal.invariant-loop-v
invariant-loop-v l = l.items.items ≡ l.fn.items.items ++ member_items l.v l.set l.edges
