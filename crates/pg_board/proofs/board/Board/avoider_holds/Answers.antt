use Rattle.std.proofs.Common.{◌≡◌, ◌∙◌, sym, ap, length}
use Rattle.pg_board.specs.Shape.{shape_of}
use Rattle.pg_board.specs.Fits.{position_of, free_points_in}
use Rattle.pg_board.proofs.Fitting.{fit-first}
use Rattle.pg_board.specs.Totals.{avoider_in}
use Rattle.pg_board.proofs.Judging.{agree-is, base-two, avoider-of, free-points-of}
use Rattle.pg_board.proofs.board.Board.avoider_holds.Goals as goal

pub avoider_holds-requires-clause-agrees : goal.avoider_holds-requires-clause-agrees
avoider_holds-requires-clause-agrees c =
    agree-is _ _ _ _ _ (fit-first _ _ _ _ _ _ c.self.invariant.fit)

pub avoider_holds-requires-clause-fits : goal.avoider_holds-requires-clause-fits
avoider_holds-requires-clause-fits c =
    base-two _ _ _ _ _ (fit-first _ _ _ _ _ _ c.self.invariant.fit)

pub avoider_holds-requires-clause-few : goal.avoider_holds-requires-clause-few
avoider_holds-requires-clause-few c = (fit-first _ _ _ _ _ _ c.self.invariant.fit).few_bias

pub avoider_holds-requires-clause-turn : goal.avoider_holds-requires-clause-turn
avoider_holds-requires-clause-turn c = (fit-first _ _ _ _ _ _ c.self.invariant.fit).turn

pub avoider_holds-requires-clause-free : goal.avoider_holds-requires-clause-free
avoider_holds-requires-clause-free c =
    let shape : c.self.inside.layout ≡ shape_of c.args.self.now.game =
    c.self.invariant.layout ∙ ap (λ v. shape_of v.game) c.self.view_is in
    let at : position_of c.self.inside.layout c.self.inside.trail.cells
    ≡ c.args.self.now.stand.position = ap (λ v. v.stand.position) c.self.view_is in
    c.free_count.ensures
    ∙ ap length ((sym (free-points-of c.args.self.now.game c.args.self.now.stand.position))
    ∙ (λ i. free_points_in (sym shape i) (sym at i)))

pub returns : goal.returns
returns c =
    let shape : c.self.inside.layout ≡ shape_of c.args.self.now.game =
    c.self.invariant.layout ∙ ap (λ v. shape_of v.game) c.self.view_is in
    let at : position_of c.self.inside.layout c.self.inside.trail.cells
    ≡ c.args.self.now.stand.position = ap (λ v. v.stand.position) c.self.view_is in
    let bias = ap (λ v. v.game.bias) c.self.view_is in
    c.avoider_holds.ensures
    ∙ ((λ i. avoider_in (record { bias = bias i; shape = shape i }) (at i))
    ∙ avoider-of c.args.self.now.game c.args.self.now.stand.position)
