use Rattle.std.proofs.Common.{◌≡◌, ◌<◌, ◌^◌, ap, ◌∙◌, length, arith}
use Rattle.pg_board.proofs.Common.{free_points, present}
use Rattle.pg_board.specs.Shape.{shape_of}
use Rattle.pg_board.specs.Fits.{position_of, free_points_in}
use Rattle.pg_board.proofs.Fitting.{fit-first}
use Rattle.pg_board.proofs.Opened.{free-few}
use Rattle.pg_board.proofs.Judging.{free-points-of}
use Rattle.pg_board.proofs.board.Board.free_count.Goals as goal

pub overflow_cast-result : goal.overflow_cast-result
overflow_cast-result c =
    let fits = fit-first _ _ _ _ _ _ c.self.invariant.fit in
    let few = free-few _ _ _ _ _ fits in
    let small : c.len.result < 2 ^ 16 = omega (arith, c.len.ensures, few, fits.shape.few_points) in
    search

pub returns : goal.returns
returns c =
    let fits = fit-first _ _ _ _ _ _ c.self.invariant.fit in
    let shape : c.self.inside.layout ≡ shape_of c.args.self.now.game =
    c.self.invariant.layout ∙ ap (λ v. shape_of v.game) c.self.view_is in
    let at : position_of c.self.inside.layout c.self.inside.trail.cells
    ≡ c.args.self.now.stand.position = ap (λ v. v.stand.position) c.self.view_is in
    let free : present c.self.inside.rings.free
    ≡ free_points c.args.self.now.game c.args.self.now.stand.position = fits.free_is
    ∙ ((λ i. free_points_in (shape i) (at i))
    ∙ free-points-of c.args.self.now.game c.args.self.now.stand.position) in
    c.len.ensures ∙ ap length free
