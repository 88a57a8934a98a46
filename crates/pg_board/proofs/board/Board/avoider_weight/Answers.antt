use Rattle.std.proofs.Common.{◌≡◌, ◌<◌, ◌∙◌, sym, ap, subst}
use Rattle.pg_base.specs.declared.side.Side.TheVariants.{Y}
use Rattle.pg_board.specs.Shape.{shape_of}
use Rattle.pg_board.specs.Fits.{position_of}
use Rattle.pg_board.proofs.Fitting.{fit-first}
use Rattle.pg_board.specs.Shape.{Shape}
use Rattle.pg_board.specs.Totals.{weight_in}
use Rattle.pg_board.proofs.Judging.{agree-is, base-two, avoider-weight-of}
use Rattle.pg_board.proofs.board.Board.avoider_weight.Goals as goal

pub weight-requires-clause-agrees : goal.weight-requires-clause-agrees
weight-requires-clause-agrees c = agree-is _ _ _ _ _ (fit-first _ _ _ _ _ _ c.self.invariant.fit)

pub weight-requires-clause-fits : goal.weight-requires-clause-fits
weight-requires-clause-fits c = base-two _ _ _ _ _ (fit-first _ _ _ _ _ _ c.self.invariant.fit)

pub weight-requires-clause-range : goal.weight-requires-clause-range
weight-requires-clause-range c =
    let shape : c.self.inside.layout ≡ shape_of c.args.self.now.game =
    c.self.invariant.layout ∙ ap (λ v. shape_of v.game) c.self.view_is in
    subst (λ (s : Shape). c.args.v < s.points) (sym shape) c.requires

pub returns : goal.returns
returns c =
    let shape : c.self.inside.layout ≡ shape_of c.args.self.now.game =
    c.self.invariant.layout ∙ ap (λ v. shape_of v.game) c.self.view_is in
    let at : position_of c.self.inside.layout c.self.inside.trail.cells
    ≡ c.args.self.now.stand.position = ap (λ v. v.stand.position) c.self.view_is in
    c.weight.ensures.exact
    ∙ ((λ i. weight_in 2 (shape i) (at i) Y c.args.v)
    ∙ avoider-weight-of c.args.self.now.game c.args.self.now.stand.position c.args.v)
