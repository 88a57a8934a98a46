use Rattle.std.proofs.Common.{◌∙◌, ap, refl, sym, append-nil}
use Rattle.pg_scene.proofs.Common.{contains, Vec, points_below}
use Rattle.pg_scene.proofs.Growing.{failed, passed}
use Rattle.pg_scene.specs.declared.item.Item.{Item}
use Rattle.pg_scene.specs.declared.item.Item.TheVariants.{Member}
use Rattle.pg_scene.proofs.points.put_members.Goals as goal
use Rattle.pg_scene.proofs.points.put_members.Goals.{then-has+in_ok-push, else-has}

pub loop-v-init : goal.loop-v-init
unfolding points_below
loop-v-init c = sym (append-nil c.args.items.now.items)

pub loop-v-preserved : goal.loop-v-preserved
unfolding points_below
loop-v-preserved c =
    elim c.if-has.branch [
      | then-has+in_ok-push w ↦ passed (λ v. Member v c.args.set) (contains c.args.edges.now)
          c.loop-v.v c.args.items.now.items _ _ _ (sym c.has.ensures ∙ w.if-has.true)
          (ap (λ (v : Vec Item). v.items) w.items-is ∙ w.in_ok-push.ensures.items)
          c.loop-v.invariant refl
      | else-has w ↦ failed (λ v. Member v c.args.set) (contains c.args.edges.now) c.loop-v.v
          c.args.items.now.items _ _ (sym c.has.ensures ∙ w.if-has.false)
          (ap (λ (v : Vec Item). v.items) w.items-is) c.loop-v.invariant
    ]
