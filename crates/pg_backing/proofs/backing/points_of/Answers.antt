use Rattle.std.proofs.Common.{◌∙◌, ◌+◌, List, subst, sym, take}
use Rattle.std.proofs.lemmas.List.{take_all}
use Rattle.pg_plan.specs.declared.place.Step.{Step}
use Rattle.pg_backing.proofs.Known.{AreMoved, points_left, points_none, points_taken}
use Rattle.pg_backing.proofs.backing.points_of.Goals.{else-may_take, then-may_take}
use Rattle.pg_backing.proofs.backing.points_of.Goals as goal

pub loop-step-init : goal.loop-step-init
loop-step-init c = points_none c.args.game.now c.args.position.now c.empty-points.result
    c.empty-points.ensures

pub loop-step-preserved : goal.loop-step-preserved
loop-step-preserved c = elim c.if-may_take.branch [
  | then-may_take w ↦ points_taken c.args.game.now c.args.position.now c.loop-step.points
      c.if-may_take.points c.args.steps.now c.loop-step.step-index
      (record { point = 0; place = 0 }) c.loop-step-test.true
      (sym c.may_take.ensures.exact ∙ w.if-may_take.true) (w.points-is ∙ w.put.ensures)
      c.loop-step.invariant
  | else-may_take w ↦ subst (AreMoved c.args.game.now c.args.position.now
      (take (c.loop-step.step-index + 1) c.args.steps.now)) (sym w.points-is)
      (points_left c.args.game.now c.args.position.now c.loop-step.points c.args.steps.now
      c.loop-step.step-index (record { point = 0; place = 0 }) c.loop-step-test.true
      (sym c.may_take.ensures.exact ∙ w.if-may_take.false) c.loop-step.invariant)
]

pub returns : goal.returns
returns c = subst (λ (ss : List Step). AreMoved c.args.game.now c.args.position.now ss
    c.loop-step.points)
    (take_all c.loop-step.step-index c.args.steps.now c.loop-step-test.false)
    c.loop-step.invariant
