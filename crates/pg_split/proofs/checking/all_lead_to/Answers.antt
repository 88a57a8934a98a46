use Rattle.std.proofs.Common.{subst}
use Rattle.std.proofs.lemmas.List.{take_all}
use Rattle.std.specs.List.{All}
use Rattle.pg_split.proofs.Checked.{all_more}
use Rattle.pg_split.specs.Splits.{LeadsTo}
use Rattle.pg_split.proofs.checking.all_lead_to.Goals as goal

pub loop-step-preserved : goal.loop-step-preserved
loop-step-preserved c =
    all_more (LeadsTo c.args.game.now c.args.positions.now c.args.position.now) c.args.steps.now
    c.loop-step.step-index (record { point = 0; place = 0 }) c.loop-step-test.true
    (c.leads_to.ensures c.if-not-leads_to.false) c.loop-step.invariant

pub returns : goal.returns
returns c = λ on. subst
    (All (LeadsTo c.args.game.now c.args.positions.now c.args.position.now))
    (take_all c.loop-step.step-index c.args.steps.now c.loop-step-test.false)
    c.loop-step.invariant
