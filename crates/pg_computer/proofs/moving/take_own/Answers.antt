use Rattle.std.proofs.Common.{◌∙◌, ap, arith, length, refl, subst, sym}
use Rattle.pg_computer.proofs.Common.{Game, IsMadeForGame, IsPosition, Play, is_over}
use Rattle.pg_computer.proofs.Common.{judged_move, length_push, place}
use Rattle.pg_computer.proofs.Parts.{keeps_more, own_going, played_may}
use Rattle.pg_computer.proofs.Standing.{room}
use Rattle.pg_computer.proofs.moving.take_own.Goals as goal

pub choose-requires-clause-position : goal.choose-requires-clause-position
choose-requires-clause-position g c =
    subst (λ (k : Game). IsPosition k c.position-position.result) (sym c.requires.ready.0.0)
    c.position-position.ensures.fits

pub choose-requires-clause-going : goal.choose-requires-clause-going
choose-requires-clause-going g c =
    let old = c.args.table.now in
    (λ i. is_over old.game.now ((c.position-position.ensures.exact
    ∙ (λ j. place (sym c.requires.ready.0.0 j) old.session.events)) i))
    ∙ own_going c.args.side old.game.now old.session.events c.requires.own

pub play-requires : goal.play-requires
play-requires g c =
    let old = c.args.table.now.session in
    room old.game old.events c.requires.ready.1

pub returns-clause-ready : goal.returns-clause-ready
returns-clause-ready g c =
    let old = c.args.table.now.session in
    let new = c.play.new.self in
    let v = c.in_ok-choice.choice.point in
    let may = played_may (judged_move old.game (place old.game old.events) v)
    c.in-Ok.ensures.result in
    let seated = c.requires.ready.0 in (
      (
        seated.0 ∙ sym c.in-Ok.ensures.game,
        subst (λ (k : Game). IsMadeForGame c.args.table.now.judge k) (sym c.in-Ok.ensures.game)
            seated.1,
      ),
      (keeps_more old new v c.in-Ok.ensures.game c.in-Ok.ensures.events may
          c.requires.ready.1).1,
      c.requires.ready.2,
    )

pub returns-clause-grows : goal.returns-clause-grows
returns-clause-grows g c = (
  refl,
  refl,
  omega (
    arith,
    ap length c.in-Ok.ensures.events,
    length_push c.args.table.now.session.events (Play c.in_ok-choice.choice.point),
  ),
)
