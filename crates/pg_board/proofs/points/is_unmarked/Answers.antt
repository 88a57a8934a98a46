use Rattle.std.proofs.Common.{◌≡◌, true, false, not, ◌&&◌, get_or, eqb, ap, ◌∙◌, sym}
use Rattle.std.proofs.lemmas.Bool.{eq-eqb, ne_eqb}
use Rattle.pg_board.specs.Shape.{mark_cell}
use Rattle.pg_board.specs.Fits.{has_mark}
use Rattle.pg_board.specs.Near.{has_none}
use Rattle.pg_board.proofs.points.is_unmarked.Goals as goal

pub returns-then-mark-mark_of : goal.returns-then-mark-mark_of
unfolding has_none has_mark
returns-then-mark-mark_of c =
    let read : c.get-mark.result ≡ get_or c.args.trail.now.cells (mark_cell c.args.v) 0 =
    c.get-mark.ensures ∙ ap (λ k. get_or c.args.trail.now.cells k 0) c.mark_cell.ensures in
    let off : eqb (get_or c.args.trail.now.cells (mark_cell c.args.v) 0) 1 ≡ false =
    ne_eqb _ _ (λ e. c.if-mark-mark_of.true (read ∙ (e ∙ sym c.mark_of.ensures))) in
    (λ i. not (eqb (read i) (c.mark_of-then-mark-mark_of.ensures i)))
    ∙ sym
    (ap (λ b. not b && not (eqb (get_or c.args.trail.now.cells (mark_cell c.args.v) 0) 2)) off)

pub returns-else-mark-mark_of : goal.returns-else-mark-mark_of
unfolding has_none has_mark
returns-else-mark-mark_of c =
    let read : c.get-mark.result ≡ get_or c.args.trail.now.cells (mark_cell c.args.v) 0 =
    c.get-mark.ensures ∙ ap (λ k. get_or c.args.trail.now.cells k 0) c.mark_cell.ensures in
    let on : eqb (get_or c.args.trail.now.cells (mark_cell c.args.v) 0) 1 ≡ true =
    eq-eqb _ _ (sym read ∙ (c.if-mark-mark_of.false ∙ c.mark_of.ensures)) in
    ap not (eq-eqb _ _ c.if-mark-mark_of.false)
    ∙ sym (ap (λ b. not b && not (eqb (get_or c.args.trail.now.cells (mark_cell c.args.v) 0) 2)) on)
