use Rattle.std.proofs.Common.{◌≡◌, ◌++◌}
use Rattle.pg_scene.specs.Items.{point_items}
use Rattle.pg_scene.proofs.points.put_points.Given as goal

abbrev pub invariant-loop-v : goal.invariant-loop-v
invariant-loop-v l = l.items.items ≡ l.fn.items.items ++ point_items l.v l.p
