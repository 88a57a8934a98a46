use Rattle.std.proofs.Common.{arith, ap, ◌∙◌, sym, subst}
use Rattle.pg_game.specs.Game.{IsPosition}
use Rattle.pg_board.proofs.Answering.{position-is}
use Rattle.pg_board.proofs.Judging.{position-fits}
use Rattle.pg_board.proofs.Fitting.{fit-first, some-cells}
use Rattle.pg_board.proofs.board.Board.position.Goals as goal

pub left-left-requires-clause-width : goal.left-left-requires-clause-width
left-left-requires-clause-width c =
    some-cells _ _ _ _ _ (fit-first _ _ _ _ _ _ c.self.invariant.fit)

pub left-left-requires-clause-few : goal.left-left-requires-clause-few
left-left-requires-clause-few c =
    let fits = fit-first _ _ _ _ _ _ c.self.invariant.fit in
    omega (arith, fits.turn, fits.few_bias)

pub marked-requires-clause-width : goal.marked-requires-clause-width
marked-requires-clause-width c = (fit-first _ _ _ _ _ _ c.self.invariant.fit).counted.width

pub marked-requires-clause-few : goal.marked-requires-clause-few
marked-requires-clause-few c = (fit-first _ _ _ _ _ _ c.self.invariant.fit).shape.few_points

pub marked-requires-2-clause-width : goal.marked-requires-2-clause-width
marked-requires-2-clause-width c = (fit-first _ _ _ _ _ _ c.self.invariant.fit).counted.width

pub marked-requires-2-clause-few : goal.marked-requires-2-clause-few
marked-requires-2-clause-few c = (fit-first _ _ _ _ _ _ c.self.invariant.fit).shape.few_points

pub turn-requires : goal.turn-requires
turn-requires c = some-cells _ _ _ _ _ (fit-first _ _ _ _ _ _ c.self.invariant.fit)

pub returns : goal.returns
returns c =
    let exact = (λ i. record {
      x = c.marked.ensures i;
      y = c.marked-2.ensures i;
      turn = c.turn.ensures i;
      left = c.left-left.ensures i;
    })
    ∙ (sym (position-is c.self.inside.layout c.self.inside.trail.cells)
    ∙ ap (λ v. v.stand.position) c.self.view_is) in
    let fits = subst (λ v. IsPosition v.game v.stand.position) c.self.view_is
    (position-fits c.self.inside.game.now c.self.inside.layout _ _ _ _ c.self.invariant.layout
    (fit-first _ _ _ _ _ _ c.self.invariant.fit)) in
    record { exact = exact; fits = subst (IsPosition c.args.self.now.game) (sym exact) fits }
