use Rattle.std.proofs.Common.{◌≤◌, ◌∙◌, Some, arith, length, refl, subst, sym, take}
use Rattle.pg_computer.proofs.Common.{Game, IsMadeForGame, Shows, err_from_is_err_and}
use Rattle.pg_computer.specs.Points.{IsLast}
use Rattle.pg_computer.proofs.Standing.{count-all, first_keeps}
use Rattle.pg_computer.proofs.moving.OpponentBout.undo.Goals as goal

pub first_points-requires-clause-count : goal.first_points-requires-clause-count
first_points-requires-clause-count g c =
    let old = c.args.self.now.table.session in
    let last = rw c.in-Some.is at c.last_reply.ensures in
    omega (arith, last.0, count-all old.game old.events c.requires.shown.1)

pub returns-in_err-first-clause-undoes : goal.returns-in_err-first-clause-undoes
returns-in_err-first-clause-undoes g c =
    let p = err_from_is_err_and c.from_residual.result c.from_residual.ensures.1 in
    let events = c.args.self.now.table.session.events in
    let last = rw c.in-Some.is at c.last_reply.ensures in
    λ heard. rw p.1 (
      Shows (take c.in-Some.last events) heard,
      (
        Some c.in-Some.last,
        subst (λ (k : Game). IsLast c.args.self.now.side k events (Some c.in-Some.last))
            (sym c.requires.shown.0.0) last,
        refl,
      ),
    )

pub returns-clause-after : goal.returns-clause-after
returns-clause-after g c =
    let table = c.args.self.now.table in
    let old = table.session in
    let last = rw c.in-Some.is at c.last_reply.ensures in
    let low : c.in-Some.last ≤ length old.events =
    omega (arith, last.0, count-all old.game old.events c.requires.shown.1) in
    let keeps = first_keeps old c.in_ok-first.first table.game.now c.in-Some.last
    c.requires.shown.0.0 c.in_ok-first.ensures low c.requires.shown.1 in (
      (
        c.requires.shown.0.0 ∙ sym keeps.0,
        subst (λ (k : Game). IsMadeForGame table.judge k) (sym keeps.0) c.requires.shown.0.1,
      ),
      keeps.1,
      c.requires.shown.2,
    )
