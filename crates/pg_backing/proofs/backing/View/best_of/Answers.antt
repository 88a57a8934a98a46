use Rattle.std.proofs.Common.{◌∙◌, ◌+◌, ap, drop, sym}
use Rattle.std.proofs.lemmas.List.{drop_all}
use Rattle.pg_backing.proofs.Known.{best_left, best_taken}
use Rattle.pg_backing.specs.Backed.{best_from, with_next}
use Rattle.pg_backing.specs.declared.backing.Best.{Best}
use Rattle.pg_backing.proofs.backing.View.best_of.Goals.{else-may_take, then-may_take}
use Rattle.pg_backing.proofs.backing.View.best_of.Goals as goal

pub loop-step-preserved : goal.loop-step-preserved
loop-step-preserved c =
    let g = c.args.self.now.game.now in
    let p = c.args.position.now in
    let spans = c.args.self.now.spans.now in
    elim c.if-may_take.branch [
      | then-may_take w ↦ record {
        turn = ap (λ (b : Best). b.turn) w.best-is ∙ w.add.ensures.turn
            ∙ c.loop-step.invariant.turn;
        span = best_taken g p spans c.loop-step.best.span c.if-may_take.best.span
            c.loop-step.best.turn c.args.steps.now c.loop-step.step-index
            (record { point = 0; place = 0 }) c.loop-step-test.true
            (sym c.may_take.ensures.exact ∙ w.if-may_take.true) c.loop-step.invariant.turn
            (ap (λ (b : Best). b.span) w.best-is ∙ w.add.ensures.span
            ∙ ap (with_next c.loop-step.best.turn c.loop-step.best.span) w.span.ensures)
            ∙ c.loop-step.invariant.span;
      }
      | else-may_take w ↦ record {
        turn = ap (λ (b : Best). b.turn) w.best-is ∙ c.loop-step.invariant.turn;
        span = ap (λ (b : Best). best_from g p spans b.span
            (drop (c.loop-step.step-index + 1) c.args.steps.now)) w.best-is
            ∙ best_left g p spans c.loop-step.best.span c.args.steps.now
            c.loop-step.step-index (record { point = 0; place = 0 }) c.loop-step-test.true
            (sym c.may_take.ensures.exact ∙ w.if-may_take.false) ∙ c.loop-step.invariant.span;
      }
    ]

pub returns : goal.returns
returns c = record {
  turn = c.loop-step.invariant.turn;
  span = sym (ap (best_from c.args.self.now.game.now c.args.position.now c.args.self.now.spans.now
      c.loop-step.best.span)
      (drop_all c.loop-step.step-index c.args.steps.now c.loop-step-test.false))
      ∙ c.loop-step.invariant.span;
}
