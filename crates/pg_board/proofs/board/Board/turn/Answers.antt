use Rattle.std.proofs.Common.{◌≡◌, ap, ◌∙◌}
use Rattle.pg_board.specs.Fits.{position_of}
use Rattle.pg_board.proofs.Deciding.{turn-is}
use Rattle.pg_board.proofs.Fitting.{fit-first, some-cells}
use Rattle.pg_board.proofs.board.Board.turn.Goals as goal

pub turn-requires : goal.turn-requires
turn-requires c = some-cells _ _ _ _ _ (fit-first _ _ _ _ _ _ c.self.invariant.fit)

pub returns : goal.returns
returns c =
    let at : position_of c.self.inside.layout c.self.inside.trail.cells
    ≡ c.args.self.now.stand.position = ap (λ v. v.stand.position) c.self.view_is in
    c.turn.ensures ∙ (turn-is c.self.inside.layout c.self.inside.trail.cells ∙ ap (λ p. p.turn) at)
