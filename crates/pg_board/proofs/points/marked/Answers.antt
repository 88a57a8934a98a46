use Rattle.std.proofs.Common.{◌≡◌, ◌+◌, true, false, get_or, arith, ap, ◌∙◌, sym}
use Rattle.std.proofs.lemmas.Bool.{eq-eqb, ne_eqb}
use Rattle.pg_board.specs.Shape.{mark_cell}
use Rattle.pg_board.specs.Fits.{has_mark, set_below}
use Rattle.pg_board.proofs.CellPlaces.{mark_cell-is, mark-within}
use Rattle.pg_board.proofs.Answering.{set_below-none, set_below-on, set_below-off}
use Rattle.pg_board.proofs.points.marked.Goals as goal
use Rattle.pg_board.proofs.points.marked.Goals.{then-get-mark, else-get-mark}

pub loop-v-init : goal.loop-v-init
loop-v-init c = c.empty-points.ensures ∙ sym (set_below-none _)

pub get-requires : goal.get-requires
get-requires c =
    let at = mark_cell-is c.loop-v.v in
    let within = mark-within c.args.layout.now (1 + c.loop-v.v)
    (omega (arith, c.loop-v-test.true, c.points-v-end.ensures)) in
    omega (arith, c.mark_cell.ensures, c.requires.width)

pub loop-v-preserved : goal.loop-v-preserved
unfolding has_mark
loop-v-preserved c =
    let read : c.get.result ≡ get_or c.args.trail.now.cells (mark_cell c.loop-v.v) 0 =
    c.get.ensures ∙ ap (λ k. get_or c.args.trail.now.cells k 0) c.mark_cell.ensures in
    elim c.if-get-mark.branch [
      | then-get-mark w ↦
          let on : has_mark c.args.trail.now.cells c.args.side c.loop-v.v ≡ true =
          eq-eqb _ _ (sym read ∙ (w.if-get-mark.true ∙ c.mark_of-mark.ensures)) in
          w.points-is
          ∙ (w.put.ensures
          ∙ (ap (λ s. Rattle.std.specs.FinSet.insert s c.loop-v.v) c.loop-v.invariant
          ∙ set_below-on (has_mark c.args.trail.now.cells c.args.side) c.loop-v.v on))
      | else-get-mark w ↦
          let off : has_mark c.args.trail.now.cells c.args.side c.loop-v.v ≡ false =
          ne_eqb _ _ (λ e. w.if-get-mark.false (read ∙ (e ∙ sym c.mark_of-mark.ensures))) in
          w.points-is
          ∙ (c.loop-v.invariant
          ∙ set_below-off (has_mark c.args.trail.now.cells c.args.side) c.loop-v.v off)
    ]

pub returns : goal.returns
returns c =
    let all : c.loop-v.v ≡ c.args.layout.now.points =
    omega (arith, c.loop-v-test.false, c.points-v-end.ensures) in
    c.loop-v.invariant ∙ ap (set_below (has_mark c.args.trail.now.cells c.args.side)) all
