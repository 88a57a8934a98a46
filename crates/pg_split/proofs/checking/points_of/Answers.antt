use Rattle.std.proofs.Common.{◌∙◌, subst, sym, take}
use Rattle.std.specs.FinSet.{FinSet}
use Rattle.std.specs.Ordering.{nat_cmp}
use Rattle.pg_split.proofs.Checked.{ArePointsOf, points_kept, points_more, points_none}
use Rattle.pg_split.proofs.checking.points_of.Goals.{then-step-lt-MAX_MEMBERS}
use Rattle.pg_split.proofs.checking.points_of.Goals.{else-step-lt-MAX_MEMBERS}
use Rattle.pg_split.proofs.checking.points_of.Goals as goal

pub loop-step-init : goal.loop-step-init
loop-step-init c = points_none c.empty-points.result c.empty-points.ensures

pub loop-step-preserved : goal.loop-step-preserved
loop-step-preserved c = elim c.if-step-lt-MAX_MEMBERS.branch [
  | then-step-lt-MAX_MEMBERS w ↦ points_more c.loop-step.points c.if-step-lt-MAX_MEMBERS.points
      c.args.steps.now c.loop-step.step-index (record {
        point = 0;
        place = 0;
      }) c.loop-step-test.true (w.points-is ∙ w.put.ensures) c.loop-step.invariant
  | else-step-lt-MAX_MEMBERS w ↦ points_kept c.if-step-lt-MAX_MEMBERS.points c.args.steps.now
      c.loop-step.step-index (record { point = 0; place = 0 }) c.loop-step-test.true
      (subst (λ (points : FinSet nat_cmp). ArePointsOf points
      (take c.loop-step.step-index c.args.steps.now)) (sym w.points-is) c.loop-step.invariant)
]
