use Rattle.std.proofs.Common.{refl, sym, subst}
use Rattle.pg_vec_player.proofs.Common.{moved, vector_rules}
use Rattle.pg_vec_player.specs.Player.{VecPlay, MakesVecMove}
use Rattle.pg_vec_player.specs.Player.{IsVecDue}
use Rattle.pg_vec_player.proofs.Keeping.{own_is_kept, lost-bound, on-own, small, playing-next}
use Rattle.pg_vec_player.proofs.player.VecPlayer.make_move.Goals as goal

pub own_move-made-requires-clause-last : goal.own_move-made-requires-clause-last
own_move-made-requires-clause-last c =
    let a = c.self.inside in
    let due =
    subst (λ (play : VecPlay). IsVecDue play.game play.side c.args.p.now play.plan c.args.last)
    (sym c.self.view_is) c.requires in
    lost-bound a.game.now a.side c.args.p.now a.plan c.args.last due

pub after-next-requires : goal.after-next-requires
after-next-requires c =
    let a = c.self.inside in
    let g = a.game.now in
    let side = a.side in
    let plan = a.plan in
    let later = c.own_move-made.result.plan in
    let v = c.own_move-made.result.vector in
    let due =
    subst (λ (play : VecPlay). IsVecDue play.game play.side c.args.p.now play.plan c.args.last)
    (sym c.self.view_is) c.requires in
    small g v
    (own_is_kept g side c.args.p.now plan later c.args.last v due
    c.own_move-made.ensures.own).free.0

pub invariant_of-self : goal.invariant_of-self
invariant_of-self c =
    let a = c.self.inside in
    let g = a.game.now in
    let side = a.side in
    let plan = a.plan in
    let later = c.own_move-made.result.plan in
    let v = c.own_move-made.result.vector in
    let due =
    subst (λ (play : VecPlay). IsVecDue play.game play.side c.args.p.now play.plan c.args.last)
    (sym c.self.view_is) c.requires in
    let k =
    own_is_kept g side c.args.p.now plan later c.args.last v due c.own_move-made.ensures.own in
    playing-next g side (moved (vector_rules g) c.args.p.now v) c.after-next.result later
    c.ending-self-inside.result c.ending-self-inside.new.self
    (on-own g side c.args.p.now plan later c.args.last v due k) c.after-next.ensures
    c.ending-self-inside.ensures.ending c.ending-self-inside.ensures.kept

pub returns : goal.returns
returns c =
    let a = c.self.inside in
    let g = a.game.now in
    let side = a.side in
    let plan = a.plan in
    let later = c.own_move-made.result.plan in
    let v = c.own_move-made.result.vector in
    let due =
    subst (λ (play : VecPlay). IsVecDue play.game play.side c.args.p.now play.plan c.args.last)
    (sym c.self.view_is) c.requires in
    let k =
    own_is_kept g side c.args.p.now plan later c.args.last v due c.own_move-made.ensures.own in
    subst (λ (play : VecPlay). MakesVecMove (record {
      game = play.game;
      side = play.side;
      position = c.args.p.now;
      plan = play.plan;
    }) (record {
      game = g;
      side = side;
      position = c.after-next.result;
      plan = later;
    }) c.args.last v) c.self.view_is (record {
      going = due.going;
      turn = due.turn;
      within = k.free.0;
      free = k.free.1;
      own = c.own_move-made.ensures.own;
      position = c.after-next.ensures;
      same_game = refl;
      same_side = refl;
    })
