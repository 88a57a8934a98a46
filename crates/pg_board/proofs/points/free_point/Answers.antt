use Rattle.std.proofs.Common.{◌+◌, ◌<◌, Some, [], length, get_or, arith, ap, ◌∙◌, sym}
use Rattle.pg_board.specs.Shape.{line_in}
use Rattle.pg_board.specs.Near.{has_none}
use Rattle.pg_board.proofs.CellPlaces.{mark_cell-is, mark-within}
use Rattle.pg_board.proofs.Nearness.{find-here, find-later}
use Rattle.pg_board.proofs.points.free_point.Goals as goal

pub is_unmarked-requires : goal.is_unmarked-requires
is_unmarked-requires c =
    let is = c.line-v-items.ensures.points in
    let line = c.line-v-items.ensures.shape.lines c.args.line [] c.requires.range in
    let low : c.loop-v.v-index < length (line_in c.args.layout.now c.args.line) =
    omega (arith, c.loop-v-test.true, ap length is) in
    let small = line.range c.loop-v.v-index 0 low in
    let same = ap (λ xs. get_or xs c.loop-v.v-index 0) is in
    let at = mark_cell-is (get_or c.line-v-items.result.now c.loop-v.v-index 0) in
    let within = mark-within c.args.layout.now
    (1 + get_or c.line-v-items.result.now c.loop-v.v-index 0) (omega arith) in
    omega (arith, c.requires.width)

pub loop-v-preserved : goal.loop-v-preserved
loop-v-preserved c =
    let is = c.line-v-items.ensures.points in
    let low : c.loop-v.v-index < length (line_in c.args.layout.now c.args.line) =
    omega (arith, c.loop-v-test.true, ap length is) in
    let off = ap (λ xs. has_none c.args.trail.now.cells (get_or xs c.loop-v.v-index 0)) (sym is)
    ∙ (sym c.is_unmarked.ensures ∙ c.if-is_unmarked.false) in
    sym (find-later (has_none c.args.trail.now.cells)
    (line_in c.args.layout.now c.args.line) c.loop-v.v-index low off)
    ∙ c.loop-v.invariant

pub returns-then-is_unmarked : goal.returns-then-is_unmarked
returns-then-is_unmarked c =
    let is = c.line-v-items.ensures.points in
    let low : c.loop-v.v-index < length (line_in c.args.layout.now c.args.line) =
    omega (arith, c.loop-v-test.true, ap length is) in
    let on = ap (λ xs. has_none c.args.trail.now.cells (get_or xs c.loop-v.v-index 0)) (sym is)
    ∙ (sym c.is_unmarked.ensures ∙ c.if-is_unmarked.true) in
    ap (λ xs. Some (get_or xs c.loop-v.v-index 0)) is
    ∙ (sym (find-here (has_none c.args.trail.now.cells)
    (line_in c.args.layout.now c.args.line) c.loop-v.v-index low on)
    ∙ c.loop-v.invariant)
