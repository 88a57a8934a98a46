use Rattle.std.proofs.Common.{◌≡◌, ◌∙◌, ap}
use Rattle.pg_board.specs.Shape.{shape_of}
use Rattle.pg_board.specs.Fits.{position_of}
use Rattle.pg_board.proofs.Fitting.{fit-first}
use Rattle.pg_board.specs.Totals.{potential_in}
use Rattle.pg_board.proofs.Judging.{agree-is, base-is, potential-of}
use Rattle.pg_board.proofs.board.Board.potential_holds.Goals as goal

pub potential_holds-requires-clause-agrees : goal.potential_holds-requires-clause-agrees
potential_holds-requires-clause-agrees c =
    agree-is _ _ _ _ _ (fit-first _ _ _ _ _ _ c.self.invariant.fit)

pub potential_holds-requires-clause-fits : goal.potential_holds-requires-clause-fits
potential_holds-requires-clause-fits c = base-is _ _ _ _ _ c.self.inside.game.now.bias
    (fit-first _ _ _ _ _ _ c.self.invariant.fit) (λ i. c.self.inside.game.now.bias)

pub potential_holds-requires-clause-some : goal.potential_holds-requires-clause-some
potential_holds-requires-clause-some c = (fit-first _ _ _ _ _ _ c.self.invariant.fit).some_bias

pub potential_holds-requires-clause-few : goal.potential_holds-requires-clause-few
potential_holds-requires-clause-few c = (fit-first _ _ _ _ _ _ c.self.invariant.fit).few_bias

pub potential_holds-requires-clause-turn : goal.potential_holds-requires-clause-turn
potential_holds-requires-clause-turn c = (fit-first _ _ _ _ _ _ c.self.invariant.fit).turn

pub returns : goal.returns
returns c =
    let shape : c.self.inside.layout ≡ shape_of c.args.self.now.game =
    c.self.invariant.layout ∙ ap (λ v. shape_of v.game) c.self.view_is in
    let at : position_of c.self.inside.layout c.self.inside.trail.cells
    ≡ c.args.self.now.stand.position = ap (λ v. v.stand.position) c.self.view_is in
    let bias = ap (λ v. v.game.bias) c.self.view_is in
    c.potential_holds.ensures
    ∙ ((λ i. potential_in (record { bias = bias i; shape = shape i }) (at i) c.args.side)
    ∙ potential-of c.args.self.now.game c.args.self.now.stand.position c.args.side)
