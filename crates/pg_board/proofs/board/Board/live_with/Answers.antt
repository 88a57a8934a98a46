use Rattle.std.proofs.Common.{◌≡◌, ◌∙◌, ap, arith}
use Rattle.pg_board.specs.Shape.{shape_of}
use Rattle.pg_board.specs.Fits.{position_of}
use Rattle.pg_board.proofs.Fitting.{fit-first}
use Rattle.pg_board.specs.Totals.{live_with_in}
use Rattle.pg_board.proofs.Judging.{agree-is, too-free, live-with-of}
use Rattle.pg_board.proofs.board.Board.live_with.Goals as goal

pub returns-then-free-longest : goal.returns-then-free-longest
returns-then-free-longest c =
    let fits = fit-first _ _ _ _ _ _ c.self.invariant.fit in
    let shape : c.self.inside.layout ≡ shape_of c.args.self.now.game =
    c.self.invariant.layout ∙ ap (λ v. shape_of v.game) c.self.view_is in
    let at : position_of c.self.inside.layout c.self.inside.trail.cells
    ≡ c.args.self.now.stand.position = ap (λ v. v.stand.position) c.self.view_is in
    too-free c.self.inside.layout (position_of c.self.inside.layout c.self.inside.trail.cells)
    c.args.side c.args.free fits.shape (omega (arith, c.if-free-longest.true, c.longest.ensures))
    ∙ ((λ i. live_with_in (shape i) (at i) c.args.side c.args.free)
    ∙ live-with-of c.args.self.now.game c.args.self.now.stand.position c.args.side c.args.free)

pub live_with-requires-clause-agrees : goal.live_with-requires-clause-agrees
live_with-requires-clause-agrees c = agree-is _ _ _ _ _ (fit-first _ _ _ _ _ _ c.self.invariant.fit)

pub returns : goal.returns
returns c =
    let shape : c.self.inside.layout ≡ shape_of c.args.self.now.game =
    c.self.invariant.layout ∙ ap (λ v. shape_of v.game) c.self.view_is in
    let at : position_of c.self.inside.layout c.self.inside.trail.cells
    ≡ c.args.self.now.stand.position = ap (λ v. v.stand.position) c.self.view_is in
    c.live_with.ensures
    ∙ ((λ i. live_with_in (shape i) (at i) c.args.side c.args.free)
    ∙ live-with-of c.args.self.now.game c.args.self.now.stand.position c.args.side c.args.free)
