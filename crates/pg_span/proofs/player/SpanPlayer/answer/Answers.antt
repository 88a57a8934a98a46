use Rattle.std.proofs.Common.{◌∙◌, refl, sym, subst}
use Rattle.pg_span.proofs.Common.{edge_count}
use Rattle.pg_switch.proofs.Seats.{judged-legal, on-over, due-reply}
use Rattle.pg_span.specs.Plan.{plan_of}
use Rattle.pg_span.specs.Player.{SpanPlay, SpanWaits, TakesSpanReply, span_start}
use Rattle.pg_span.specs.Game.{span_rules_of}
use Rattle.pg_span.specs.Judge.{connects}
use Rattle.pg_span.specs.Valid.{IsBodyAt}
use Rattle.pg_span.proofs.Keeping.{more, range-own, playing-next}
use Rattle.pg_span.proofs.player.SpanPlayer.answer.Goals as goal

pub ending-ending-requires-clause-range : goal.ending-ending-requires-clause-range
ending-ending-requires-clause-range c =
    let a = c.self.inside in
    let legal = judged-legal (span_rules_of a.game.now) a.position c.args.v c.in_ok-replied.replied
    (sym c.play.ensures ∙ c.in_ok-replied.was) in
    range-own a.game.now a.position c.in_ok-replied.replied c.args.v c.self.invariant.on.place
    (legal.within, legal.free) legal.leads

pub invariant_of-self : goal.invariant_of-self
invariant_of-self c =
    let a = c.self.inside in
    let g = a.game.now in
    let side = a.claim.now.side in
    let plan = plan_of a.claim.now.body a.trees in
    let next = c.in_ok-replied.replied in
    playing-next g side next next plan c.ending-ending.result a.judge c.ending-ending.new.self
    (on-over (edge_count g.graph) (connects g.graph) (more g) (span_start g)
    (λ q. IsBodyAt g q side plan) side a.position next c.args.v c.ending-ending.result
    c.self.invariant.on
    (subst (λ (play : SpanPlay). SpanWaits play) (sym c.self.view_is) c.requires)
    (sym c.play.ensures ∙ c.in_ok-replied.was) c.ending-ending.ensures.ending
    (sym (sym c.is_some.ensures ∙ c.if-is_some.true))) refl c.ending-ending.ensures.ending
    c.self.invariant.judged c.ending-ending.ensures.kept

pub make_move-requires : goal.make_move-requires
make_move-requires c =
    let a = c.self.inside in
    let g = a.game.now in
    let side = a.claim.now.side in
    due-reply (edge_count g.graph) (connects g.graph) (more g) (span_start g)
    (λ q. IsBodyAt g q side (plan_of a.claim.now.body a.trees)) side a.position
    c.in_ok-replied.replied c.args.v c.ending-ending.result c.self.invariant.on
    (subst (λ (play : SpanPlay). SpanWaits play) (sym c.self.view_is) c.requires)
    (sym c.play.ensures ∙ c.in_ok-replied.was) c.ending-ending.ensures.ending
    (sym (sym c.is_some.ensures ∙ c.if-is_some.false))

pub returns-clause-answered : goal.returns-clause-answered
returns-clause-answered c =
    let a = c.self.inside in
    let g = a.game.now in
    let side = a.claim.now.side in
    let plan = plan_of a.claim.now.body a.trees in
    let between : SpanPlay = record {
      game = g;
      side = side;
      position = c.in_ok-replied.replied;
      plan = plan;
    } in (
      between,
      subst (λ (play : SpanPlay). TakesSpanReply play between c.args.v) c.self.view_is (record {
        legal = sym c.play.ensures ∙ c.in_ok-replied.was;
        same_plan = refl;
        same_game = refl;
        same_side = refl;
      }),
      c.make_move.ensures,
    )
