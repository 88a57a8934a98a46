use Rattle.std.proofs.Common.{◌≡◌, ◌∙◌, Some, false, refl, sym, subst}
use Rattle.pg_game.specs.Game.{is_over, after, start}
use Rattle.pg_game.specs.Value.{rules_of}
use Rattle.pg_player.specs.Player.{Play, MakesMove}
use Rattle.pg_player.specs.Stand.{standing_of}
use Rattle.pg_switch.proofs.Seats.{reached-next}
use Rattle.pg_player.proofs.Going.{on-going, on-turn, moved, x_range-next, small, IsPlaying-next}
use Rattle.pg_player.proofs.player.Player.make_move.Goals as goal

pub own_move-made-requires-clause-going : goal.own_move-made-requires-clause-going
own_move-made-requires-clause-going c =
    let a = c.self.inside in
    let going = subst (λ (play : Play). is_over play.game play.position ≡ false)
    (sym c.self.view_is) c.requires.going in
    on-going a.game.now a.claim.now a.position
    (standing_of a.claim.now.nodes a.stand) c.self.invariant.on going

pub own_move-made-requires-clause-turn : goal.own_move-made-requires-clause-turn
own_move-made-requires-clause-turn c =
    let a = c.self.inside in
    let turn = subst (λ (play : Play). play.position.turn ≡ play.claim.side)
    (sym c.self.view_is) c.requires.turn in
    on-turn a.game.now a.claim.now a.position
    (standing_of a.claim.now.nodes a.stand) c.self.invariant.on
    ∙ turn

pub free_or_lowest-point-requires : goal.free_or_lowest-point-requires
free_or_lowest-point-requires c =
    small c.self.inside.game.now c.own_move-made.result.point c.own_move-made.ensures.keeps.within

pub after-next-requires : goal.after-next-requires
after-next-requires c =
    let a = c.self.inside in
    let going = subst (λ (play : Play). is_over play.game play.position ≡ false)
    (sym c.self.view_is) c.requires.going in
    let turn = subst (λ (play : Play). play.position.turn ≡ play.claim.side)
    (sym c.self.view_is) c.requires.turn in
    let made = moved a.game.now a.claim.now a.position (standing_of a.claim.now.nodes a.stand)
    (standing_of a.claim.now.nodes c.own_move-made.result.stand) c.own_move-made.result.point
    c.free_or_lowest-point.result c.self.invariant.on going turn c.own_move-made.ensures.keeps
    c.free_or_lowest-point.ensures in
    small a.game.now c.free_or_lowest-point.result made.within

pub over-self-inside-requires-clause-range : goal.over-self-inside-requires-clause-range
over-self-inside-requires-clause-range c =
    let a = c.self.inside in
    let going = subst (λ (play : Play). is_over play.game play.position ≡ false)
    (sym c.self.view_is) c.requires.going in
    let turn = subst (λ (play : Play). play.position.turn ≡ play.claim.side)
    (sym c.self.view_is) c.requires.turn in
    let made = moved a.game.now a.claim.now a.position (standing_of a.claim.now.nodes a.stand)
    (standing_of a.claim.now.nodes c.own_move-made.result.stand) c.own_move-made.result.point
    c.free_or_lowest-point.result c.self.invariant.on going turn c.own_move-made.ensures.keeps
    c.free_or_lowest-point.ensures in
    x_range-next a.game.now a.position c.free_or_lowest-point.result c.after-next.result
    c.self.invariant.reached made.within made.free c.after-next.ensures

pub invariant_of-self : goal.invariant_of-self
invariant_of-self c =
    let a = c.self.inside in
    let i = c.self.invariant in
    let going = subst (λ (play : Play). is_over play.game play.position ≡ false)
    (sym c.self.view_is) c.requires.going in
    let turn = subst (λ (play : Play). play.position.turn ≡ play.claim.side)
    (sym c.self.view_is) c.requires.turn in
    let next = standing_of a.claim.now.nodes c.own_move-made.result.stand in
    let v = c.free_or_lowest-point.result in
    let made = moved a.game.now a.claim.now a.position
    (standing_of a.claim.now.nodes a.stand) next c.own_move-made.result.point v i.on going turn
    c.own_move-made.ensures.keeps c.free_or_lowest-point.ensures in
    IsPlaying-next a.game.now a.claim.now
    (after a.game.now a.position v) c.after-next.result next c.over-self-inside.result a.judge
    c.over-self-inside.new.self a.joiner c.own_move-made.new.joiner made.on
    (reached-next (rules_of a.game.now) (start a.game.now) a.position v i.reached going made.within
    made.free) c.after-next.ensures c.over-self-inside.ensures.result i.judged
    c.over-self-inside.ensures.kept i.joined c.own_move-made.ensures.joined

pub returns : goal.returns
returns c =
    let a = c.self.inside in
    let going = subst (λ (play : Play). is_over play.game play.position ≡ false)
    (sym c.self.view_is) c.requires.going in
    let turn = subst (λ (play : Play). play.position.turn ≡ play.claim.side)
    (sym c.self.view_is) c.requires.turn in
    let next = standing_of a.claim.now.nodes c.own_move-made.result.stand in
    let v = c.free_or_lowest-point.result in
    let made = moved a.game.now a.claim.now a.position
    (standing_of a.claim.now.nodes a.stand) next c.own_move-made.result.point v c.self.invariant.on
    going turn c.own_move-made.ensures.keeps c.free_or_lowest-point.ensures in
    subst (λ (play : Play). MakesMove play (record {
      game = a.game.now;
      claim = a.claim.now;
      position = c.after-next.result;
      standing = next;
    }) v) c.self.view_is (record {
      going = going;
      turn = turn;
      within = made.within;
      free = made.free;
      imagined = record { point = c.own_move-made.result.point; next = Some next };
      own = c.own_move-made.ensures.keeps.own;
      next = refl;
      chosen = c.free_or_lowest-point.ensures;
      position = c.after-next.ensures;
      same_game = refl;
      same_claim = refl;
    })
