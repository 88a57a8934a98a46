use Rattle.std.proofs.Common.{◌∙◌, ℕ, Bool, length, refl, sym, subst}
use Rattle.pg_vec_player.proofs.Common.{vector_spans, with_target}
use Rattle.pg_switch.proofs.Seats.{on-over, due-reply}
use Rattle.pg_vec_player.specs.Player.{VecPlay, VecWaits, TakesVecReply, VecPlanHolds, vec_start}
use Rattle.pg_gf2.proofs.LawLemmas.{more}
use Rattle.pg_vec_player.proofs.Keeping.{playing-next}
use Rattle.pg_vec_player.proofs.player.VecPlayer.answer.Goals as goal

pub invariant_of-self : goal.invariant_of-self
invariant_of-self c =
    let a = c.self.inside in
    let g = a.game.now in
    let n = length g.vectors in
    let next = c.in_ok-replied.replied in
    playing-next g a.side next next a.plan c.ending-ending.result c.ending-ending.new.self
    (on-over n (λ (set : ℕ → Bool). vector_spans (with_target g) set n) (more g) (vec_start g)
    (λ q. VecPlanHolds g a.side q a.plan) a.side a.position next c.args.v c.ending-ending.result
    c.self.invariant.on (subst (λ (play : VecPlay). VecWaits play) (sym c.self.view_is) c.requires)
    (sym c.play.ensures ∙ c.in_ok-replied.was) c.ending-ending.ensures.ending
    (sym (sym c.is_some.ensures ∙ c.if-is_some.true))) refl c.ending-ending.ensures.ending
    c.ending-ending.ensures.kept

pub make_move-requires : goal.make_move-requires
make_move-requires c =
    let a = c.self.inside in
    let g = a.game.now in
    let n = length g.vectors in
    due-reply n (λ (set : ℕ → Bool). vector_spans (with_target g) set n) (more g) (vec_start g)
    (λ q. VecPlanHolds g a.side q a.plan) a.side a.position c.in_ok-replied.replied c.args.v
    c.ending-ending.result c.self.invariant.on
    (subst (λ (play : VecPlay). VecWaits play) (sym c.self.view_is) c.requires)
    (sym c.play.ensures ∙ c.in_ok-replied.was) c.ending-ending.ensures.ending
    (sym (sym c.is_some.ensures ∙ c.if-is_some.false))

pub returns-clause-answered : goal.returns-clause-answered
returns-clause-answered c =
    let a = c.self.inside in
    let g = a.game.now in
    let side = a.side in
    let plan = a.plan in
    let between : VecPlay = record {
      game = g;
      side = side;
      position = c.in_ok-replied.replied;
      plan = plan;
    } in (
      between,
      subst (λ (play : VecPlay). TakesVecReply play between c.args.v) c.self.view_is (record {
        legal = sym c.play.ensures ∙ c.in_ok-replied.was;
        same_plan = refl;
        same_game = refl;
        same_side = refl;
      }),
      c.make_move.ensures,
    )
