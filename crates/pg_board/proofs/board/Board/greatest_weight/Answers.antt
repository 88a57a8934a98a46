use Rattle.std.proofs.Common.{◌≡◌, ◌+◌, ◌∙◌, ap}
use Rattle.pg_board.specs.Shape.{shape_of}
use Rattle.pg_board.specs.Fits.{position_of}
use Rattle.pg_board.proofs.Fitting.{fit-first}
use Rattle.pg_board.specs.Totals.{greatest_in}
use Rattle.pg_board.proofs.Judging.{agree-is, base-is, greatest-of}
use Rattle.pg_board.proofs.board.Board.greatest_weight.Goals as goal

pub greatest_weight-requires-clause-agrees : goal.greatest_weight-requires-clause-agrees
greatest_weight-requires-clause-agrees c =
    agree-is _ _ _ _ _ (fit-first _ _ _ _ _ _ c.self.invariant.fit)

pub greatest_weight-requires-clause-fits : goal.greatest_weight-requires-clause-fits
greatest_weight-requires-clause-fits c = base-is _ _ _ _ _ c.from-base.result
    (fit-first _ _ _ _ _ _ c.self.invariant.fit) c.from-base.ensures

pub returns : goal.returns
returns c =
    let shape : c.self.inside.layout ≡ shape_of c.args.self.now.game =
    c.self.invariant.layout ∙ ap (λ v. shape_of v.game) c.self.view_is in
    let at : position_of c.self.inside.layout c.self.inside.trail.cells
    ≡ c.args.self.now.stand.position = ap (λ v. v.stand.position) c.self.view_is in
    let bias = c.from-base.ensures ∙ ap (λ v. v.game.bias) c.self.view_is in
    c.greatest_weight.ensures.exact
    ∙ ((λ i. greatest_in (1 + bias i) (shape i) (at i) c.args.side)
    ∙ greatest-of c.args.self.now.game c.args.self.now.stand.position c.args.side)
