use Rattle.std.proofs.Common.{◌≡◌, ◌∙◌, ap}
use Rattle.pg_base.specs.declared.side.Side.TheVariants.{Y}
use Rattle.pg_board.specs.Shape.{shape_of}
use Rattle.pg_board.specs.Fits.{position_of}
use Rattle.pg_board.proofs.Fitting.{fit-first}
use Rattle.pg_board.specs.Totals.{total_in}
use Rattle.pg_board.proofs.Judging.{agree-is, base-two, avoider-total-of}
use Rattle.pg_board.proofs.board.Board.avoider_total.Goals as goal

pub total-requires-clause-agrees : goal.total-requires-clause-agrees
total-requires-clause-agrees c = agree-is _ _ _ _ _ (fit-first _ _ _ _ _ _ c.self.invariant.fit)

pub total-requires-clause-fits : goal.total-requires-clause-fits
total-requires-clause-fits c = base-two _ _ _ _ _ (fit-first _ _ _ _ _ _ c.self.invariant.fit)

pub returns : goal.returns
returns c =
    let shape : c.self.inside.layout ≡ shape_of c.args.self.now.game =
    c.self.invariant.layout ∙ ap (λ v. shape_of v.game) c.self.view_is in
    let at : position_of c.self.inside.layout c.self.inside.trail.cells
    ≡ c.args.self.now.stand.position = ap (λ v. v.stand.position) c.self.view_is in
    c.total.ensures.exact
    ∙ ((λ i. total_in 2 (shape i) (at i) Y)
    ∙ avoider-total-of c.args.self.now.game c.args.self.now.stand.position)
