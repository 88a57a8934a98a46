use Rattle.std.proofs.Common.{◌∙◌, ℕ, Bool, None, length, sym, subst}
use Rattle.pg_vec_player.proofs.Common.{vector_spans, with_target}
use Rattle.pg_switch.proofs.Seats.{due-first}
use Rattle.pg_vec_player.specs.Player.{VecPlay, IsVecDue, VecPlanHolds, vec_start}
use Rattle.pg_gf2.proofs.LawLemmas.{more}
use Rattle.pg_vec_player.proofs.player.VecPlayer.first.Goals as goal

pub make_move-requires : goal.make_move-requires
make_move-requires c =
    let a = c.self.inside in
    let g = a.game.now in
    let n = length g.vectors in
    subst (λ (play : VecPlay). IsVecDue play.game play.side a.position play.plan None)
    c.self.view_is
    (due-first n (λ (set : ℕ → Bool). vector_spans (with_target g) set n) (more g) (vec_start g)
    (λ q. VecPlanHolds g a.side q a.plan) a.side a.position a.ending c.self.invariant.on
    c.self.invariant.known (sym (sym c.is_some.ensures ∙ c.if-is_some.false))
    (c.is_same.ensures.0 c.if-not-is_same.false))
