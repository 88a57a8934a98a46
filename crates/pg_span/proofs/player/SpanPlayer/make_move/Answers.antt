use Rattle.std.proofs.Common.{refl, sym, subst}
use Rattle.pg_game.specs.Rules.{moved}
use Rattle.pg_span.specs.declared.judge.SpanJudge.{SpanJudge}
use Rattle.pg_span.specs.Plan.{plan_of}
use Rattle.pg_span.specs.Player.{SpanPlay, MakesSpanMove}
use Rattle.pg_span.specs.Playing.{IsSpanDue}
use Rattle.pg_span.specs.Game.{span_rules_of}
use Rattle.pg_span.proofs.Keeping.{kept, on-own, small, range-own, judge-kept, playing-next}
use Rattle.pg_span.proofs.player.SpanPlayer.make_move.Goals as goal

pub after-next-requires : goal.after-next-requires
after-next-requires c =
    let a = c.self.inside in
    let g = a.game.now in
    let side = a.claim.now.side in
    let plan = plan_of a.claim.now.body a.trees in
    let later = plan_of a.claim.now.body c.own_move-made.result.trees in
    let v = c.own_move-made.result.edge in
    let due =
    subst (λ (play : SpanPlay). IsSpanDue play.game play.side c.args.p.now play.plan c.args.last)
    (sym c.self.view_is) c.requires in
    small g v
    (kept g side c.args.p.now plan later c.args.last v due c.own_move-made.ensures.own).free.0

pub ending-self-inside-requires-clause-range : goal.ending-self-inside-requires-clause-range
ending-self-inside-requires-clause-range c =
    let a = c.self.inside in
    let g = a.game.now in
    let side = a.claim.now.side in
    let plan = plan_of a.claim.now.body a.trees in
    let later = plan_of a.claim.now.body c.own_move-made.result.trees in
    let v = c.own_move-made.result.edge in
    let due =
    subst (λ (play : SpanPlay). IsSpanDue play.game play.side c.args.p.now play.plan c.args.last)
    (sym c.self.view_is) c.requires in
    let k = kept g side c.args.p.now plan later c.args.last v due c.own_move-made.ensures.own in
    range-own g c.args.p.now c.after-next.result v due.place k.free c.after-next.ensures

pub invariant_of-self : goal.invariant_of-self
invariant_of-self c =
    let a = c.self.inside in
    let g = a.game.now in
    let side = a.claim.now.side in
    let plan = plan_of a.claim.now.body a.trees in
    let later = plan_of a.claim.now.body c.own_move-made.result.trees in
    let v = c.own_move-made.result.edge in
    let due =
    subst (λ (play : SpanPlay). IsSpanDue play.game play.side c.args.p.now play.plan c.args.last)
    (sym c.self.view_is) c.requires in
    let k = kept g side c.args.p.now plan later c.args.last v due c.own_move-made.ensures.own in
    let judge : SpanJudge = record { joiner = c.own_move-made.new.joiner; whole = a.judge.whole } in
    playing-next g side (moved (span_rules_of g) c.args.p.now v) c.after-next.result later
    c.ending-self-inside.result judge c.ending-self-inside.new.self
    (on-own g side c.args.p.now plan later c.args.last v due k) c.after-next.ensures
    c.ending-self-inside.ensures.ending
    (judge-kept g a.judge judge c.own_move-made.new.joiner c.self.invariant.judged
    c.own_move-made.ensures.kept refl) c.ending-self-inside.ensures.kept

pub returns : goal.returns
returns c =
    let a = c.self.inside in
    let g = a.game.now in
    let side = a.claim.now.side in
    let plan = plan_of a.claim.now.body a.trees in
    let later = plan_of a.claim.now.body c.own_move-made.result.trees in
    let v = c.own_move-made.result.edge in
    let due =
    subst (λ (play : SpanPlay). IsSpanDue play.game play.side c.args.p.now play.plan c.args.last)
    (sym c.self.view_is) c.requires in
    let k = kept g side c.args.p.now plan later c.args.last v due c.own_move-made.ensures.own in
    subst (λ (play : SpanPlay). MakesSpanMove (record {
      game = play.game;
      side = play.side;
      position = c.args.p.now;
      plan = play.plan;
    }) (record {
      game = g;
      side = side;
      position = c.after-next.result;
      plan = later;
    }) c.args.last v) c.self.view_is (record {
      going = due.going;
      turn = due.turn;
      within = k.free.0;
      free = k.free.1;
      own = c.own_move-made.ensures.own;
      position = c.after-next.ensures;
      same_game = refl;
      same_side = refl;
    })
