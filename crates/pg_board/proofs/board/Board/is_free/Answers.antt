use Rattle.std.proofs.Common.{◌≡◌, ◌+◌, ◌<◌, ap, ◌∙◌, sym, subst, arith}
use Rattle.pg_game.specs.Position.{is_free}
use Rattle.pg_board.specs.Shape.{Shape, shape_of}
use Rattle.pg_board.specs.Fits.{position_of}
use Rattle.pg_board.proofs.CellPlaces.{mark_cell-is, mark-within}
use Rattle.pg_board.proofs.Nearness.{unmarked-is}
use Rattle.pg_board.proofs.Fitting.{fit-first}
use Rattle.pg_board.proofs.board.Board.is_free.Goals as goal

pub is_unmarked-requires : goal.is_unmarked-requires
is_unmarked-requires c =
    let fits = fit-first _ _ _ _ _ _ c.self.invariant.fit in
    let shape : c.self.inside.layout ≡ shape_of c.args.self.now.game =
    c.self.invariant.layout ∙ ap (λ v. shape_of v.game) c.self.view_is in
    let low : c.args.v < c.self.inside.layout.points =
    subst (λ (s : Shape). c.args.v < s.points) (sym shape) c.requires in
    omega (
      arith,
      mark_cell-is c.args.v,
      mark-within c.self.inside.layout (1 + c.args.v) (omega (arith, low)),
      fits.counted.width,
    )

pub returns : goal.returns
returns c =
    let shape : c.self.inside.layout ≡ shape_of c.args.self.now.game =
    c.self.invariant.layout ∙ ap (λ v. shape_of v.game) c.self.view_is in
    let at : position_of c.self.inside.layout c.self.inside.trail.cells
    ≡ c.args.self.now.stand.position = ap (λ v. v.stand.position) c.self.view_is in
    let low : c.args.v < c.self.inside.layout.points =
    subst (λ (s : Shape). c.args.v < s.points) (sym shape) c.requires in
    c.is_unmarked.ensures
    ∙ (unmarked-is c.self.inside.layout c.self.inside.trail.cells c.args.v low
    ∙ ap (λ p. is_free p c.args.v) at)
