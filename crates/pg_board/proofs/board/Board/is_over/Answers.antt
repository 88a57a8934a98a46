use Rattle.std.proofs.Common.{◌≡◌, ◌∙◌, ap}
use Rattle.pg_board.proofs.Common.{list_any, X, Y, points_of, free_points, is_filled, has_filled}
use Rattle.pg_board.proofs.Common.{all_touched, is_full}
use Rattle.pg_board.specs.Board.{live_lines}
use Rattle.pg_board.specs.Shape.{shape_of}
use Rattle.pg_board.specs.Fits.{position_of}
use Rattle.pg_board.proofs.Fitting.{fit-first}
use Rattle.pg_board.proofs.Judging.{agree-is, over-is, touched-of}
use Rattle.pg_board.proofs.Deciding.{none-first}
use Rattle.pg_board.proofs.board.Board.is_over.Goals as goal

pub has_filled-requires : goal.has_filled-requires
has_filled-requires c = agree-is _ _ _ _ _ (fit-first _ _ _ _ _ _ c.self.invariant.fit)

pub has_filled-requires-2 : goal.has_filled-requires-2
has_filled-requires-2 c = agree-is _ _ _ _ _ (fit-first _ _ _ _ _ _ c.self.invariant.fit)

pub returns : goal.returns
returns c =
    let g = c.args.self.now.game in
    let p = c.args.self.now.stand.position in
    let shape : c.self.inside.layout ≡ shape_of c.args.self.now.game =
    c.self.invariant.layout ∙ ap (λ v. shape_of v.game) c.self.view_is in
    let at : position_of c.self.inside.layout c.self.inside.trail.cells
    ≡ c.args.self.now.stand.position = ap (λ v. v.stand.position) c.self.view_is in
    let x_is : c.has_filled.result ≡ has_filled g p X =
    c.has_filled.ensures ∙ (λ i. list_any (is_filled (points_of (at i) X)) (shape i).lines) in
    let y_is : c.has_filled-2.result ≡ has_filled g p Y =
    c.has_filled-2.ensures ∙ (λ i. list_any (is_filled (points_of (at i) Y)) (shape i).lines) in
    let touched : c.is_none.result ≡ all_touched g p = none-first c.first_live.result
    (live_lines g p Y) c.is_none.result c.is_none.ensures c.first_live.ensures.line
    ∙ touched-of g p in
    let full : c.is_none-2.result ≡ is_full g p = none-first c.first_free.result
    (free_points g p) c.is_none-2.result c.is_none-2.ensures c.first_free.ensures in
    let kind = ap (λ v. v.game.kind) c.self.view_is in
    over-is g p c.self.inside.game.now.kind c.has_filled.result c.has_filled-2.result
    c.is_none.result c.is_none-2.result c.is_over_by.result kind x_is y_is touched full
    c.is_over_by.ensures (λ e. c.self.invariant.has_lines (kind ∙ e))
