use Rattle.std.proofs.Common.{◌≡◌, ◌≤◌, ◌∙◌, get_or, length, reverse, arith, ap, sym, subst}
use Rattle.pg_board.proofs.Common.{Cells, with_cell}
use Rattle.pg_board.specs.Board.{View}
use Rattle.pg_board.specs.Fits.{AreFit, Fits, Rules, earlier_of, position_of}
use Rattle.pg_board.specs.Passing.{other_turn, passed}
use Rattle.pg_board.specs.Shape.{turn_cell}
use Rattle.pg_board.proofs.Fitting.{fit-first, some-cells}
use Rattle.pg_board.proofs.Passing.{earlier-passed, fit-passed, other_turn-low, position-other}
use Rattle.pg_board.proofs.board.Board.pass.Goals as goal

pub hand_over-requires : goal.hand_over-requires
hand_over-requires c = some-cells _ _ _ _ _ (fit-first _ _ _ _ _ _ c.self.invariant.fit)

pub invariant_of-self : goal.invariant_of-self
invariant_of-self c =
    let r : Rules = record { bias = c.self.inside.game.now.bias; shape = c.self.inside.layout } in
    let one : r.bias ≡ 1 = ap (λ v. v.game.bias) c.self.view_is ∙ c.requires in
    let n = other_turn (get_or c.self.inside.trail.cells turn_cell 0) in
    let low = other_turn-low (get_or c.self.inside.trail.cells turn_cell 0) in
    record {
      has_lines = c.self.invariant.has_lines;
      layout = c.self.invariant.layout;
      fit = subst (λ (t : Cells). AreFit r t c.self.inside.rings.live_x c.self.inside.rings.live_y
          c.self.inside.rings.free (reverse c.self.inside.plays.items)) (sym c.hand_over.ensures)
          (fit-passed r n c.self.inside.trail c.self.inside.rings.live_x c.self.inside.rings.live_y
          c.self.inside.rings.free (reverse c.self.inside.plays.items) (omega (arith, one, low))
          c.self.invariant.fit);
      places = c.self.invariant.places;
    }

pub returns : goal.returns
returns c =
    let r : Rules = record { bias = c.self.inside.game.now.bias; shape = c.self.inside.layout } in
    let one : r.bias ≡ 1 = ap (λ v. v.game.bias) c.self.view_is ∙ c.requires in
    let n = other_turn (get_or c.self.inside.trail.cells turn_cell 0) in
    let first : Fits r c.self.inside.trail c.self.inside.rings.live_x c.self.inside.rings.live_y
    c.self.inside.rings.free = fit-first _ _ _ _ _ _ c.self.invariant.fit in
    let few : get_or c.self.inside.trail.cells turn_cell 0 ≤ 1 = omega (arith, first.turn, one) in
    record {
      game = ap (λ (v : View). v.game) c.self.view_is;
      earlier = ap (λ (t : Cells).
          earlier_of c.self.inside.layout t (reverse c.self.inside.plays.items)) c.hand_over.ensures
          ∙ earlier-passed r n c.self.inside.trail c.self.inside.rings.live_x
          c.self.inside.rings.live_y c.self.inside.rings.free (reverse c.self.inside.plays.items)
          c.self.invariant.fit
          ∙ ap (λ (v : View). v.earlier) c.self.view_is;
      position = ap (λ (t : Cells). position_of c.self.inside.layout t.cells) c.hand_over.ensures
          ∙ position-other r c.self.inside.trail c.self.inside.rings.live_x
          c.self.inside.rings.live_y c.self.inside.rings.free one first
          ∙ ap (λ (v : View). passed v.stand.position) c.self.view_is;
      trail = c.hand_over.ensures
          ∙ ap (λ (v : View). with_cell v.stand.trail turn_cell
          (other_turn (get_or v.stand.trail.cells turn_cell 0))) c.self.view_is;
      few = subst (λ (v : View). get_or v.stand.trail.cells turn_cell 0 ≤ 1) c.self.view_is few;
      some = subst (λ (v : View). 1 ≤ length v.stand.trail.cells) c.self.view_is
          (some-cells _ _ _ _ _ first);
    }
