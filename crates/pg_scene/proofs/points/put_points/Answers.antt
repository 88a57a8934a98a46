use Rattle.std.proofs.Common.{ap}
use Rattle.pg_gen.proofs.Ascending.{next_of}
use Rattle.pg_scene.specs.Items.{mark_of}
use Rattle.pg_scene.specs.declared.item.Item.TheVariants.{Point}
use Rattle.pg_scene.proofs.points.put_points.Goals as goal

pub loop-v-preserved : goal.loop-v-preserved
loop-v-preserved c =
    next_of (λ v. Point v (mark_of c.args.p.now v)) c.loop-v.v c.args.items.now.items _ _ _
    c.in_ok-push.ensures.items c.loop-v.invariant (ap (Point c.loop-v.v) c.mark_of.ensures)
