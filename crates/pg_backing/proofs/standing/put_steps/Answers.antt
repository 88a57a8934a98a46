use Rattle.std.proofs.Common.{◌∙◌, ◌+◌, List, [], refl, subst, sym, take}
use Rattle.std.proofs.lemmas.List.{take_all}
use Rattle.pg_plan.specs.declared.place.Step.{Step}
use Rattle.pg_backing.proofs.Placed.{put_none, put_same, put_taken}
use Rattle.pg_backing.specs.Ways.{ArePut, moved}
use Rattle.pg_backing.proofs.standing.put_steps.Goals.{else-may_take, then-may_take}
use Rattle.pg_backing.proofs.standing.put_steps.Goals as goal

pub loop-step-init : goal.loop-step-init
loop-step-init c = put_none (moved c.args.game.now c.args.position.now []) c.args.positions.now
    c.args.positions.now refl (λ j. refl)

pub loop-step-preserved : goal.loop-step-preserved
loop-step-preserved c = elim c.if-may_take.branch [
  | then-may_take w ↦ put_taken c.args.game.now c.args.position.now c.args.steps.now
      c.loop-step.step-index (record { point = 0; place = 0 }) w.after.result
      c.args.positions.now c.loop-step.positions w.put.new.positions c.if-may_take.positions
      c.loop-step-test.true (sym c.may_take.ensures.exact ∙ w.if-may_take.true) w.after.ensures
      c.loop-step.invariant w.put.ensures w.positions-is
  | else-may_take w ↦ subst (ArePut (moved c.args.game.now c.args.position.now
      (take (c.loop-step.step-index + 1) c.args.steps.now)) c.args.positions.now)
      (sym w.positions-is) (put_same c.args.game.now c.args.position.now c.args.steps.now
      c.loop-step.step-index (record { point = 0; place = 0 }) c.args.positions.now
      c.loop-step.positions c.loop-step-test.true
      (sym c.may_take.ensures.exact ∙ w.if-may_take.false) c.loop-step.invariant)
]

pub returns : goal.returns
returns c = subst (λ (ss : List Step). ArePut (moved c.args.game.now c.args.position.now ss)
    c.args.positions.now c.loop-step.positions)
    (take_all c.loop-step.step-index c.args.steps.now c.loop-step-test.false)
    c.loop-step.invariant
