use Rattle.std.proofs.Common.{◌≡◌, ℕ, ◌+◌, ◌<◌, ◌≤◌, List, [], length, get_or, set, arith, ap, ◌∙◌}
use Rattle.pg_board.proofs.Common.{length-set, X, Y}
use Rattle.pg_board.specs.Shape.{Shape, IsShape, line_in}
use Rattle.pg_board.specs.Counts.{lines_in}
use Rattle.pg_board.proofs.CellPlaces.{free_cell-within}
use Rattle.pg_board.proofs.Blank.{blank-few, blank-theirs, blank-more}
use Rattle.pg_board.proofs.opening.count_lengths.Goals as goal

short_line : (s : Shape) (i : ℕ) (row : List ℕ)
    → IsShape s
    → row ≡ line_in s i
    → i < length s.lines
    → length row ≤ s.longest
short_line s i row shape is low =
    let at = shape.lines i [] low in
    omega (arith, ap length is, at.short)

pub raise-requires-clause-within : goal.raise-requires-clause-within
raise-requires-clause-within c =
    let low : c.loop-i.i < length c.args.layout.now.lines = omega arith in
    let short = short_line c.args.layout.now c.loop-i.i c.line.result.now c.line.ensures.shape
    c.line.ensures.points low in
    let within = free_cell-within c.args.layout.now X (length c.line.result.now) short in
    omega (arith, c.free_cell.ensures, c.loop-i.invariant.width)

pub raise-requires-clause-few : goal.raise-requires-clause-few
raise-requires-clause-few c =
    let low : c.loop-i.i < length c.args.layout.now.lines = omega arith in
    let short = short_line c.args.layout.now c.loop-i.i c.line.result.now c.line.ensures.shape
    c.line.ensures.points low in
    let few = blank-few c.args.layout.now c.loop-i.i c.loop-i.cells X (length c.line.result.now)
    c.loop-i.invariant short (omega (arith, c.line.ensures.shape.few_lines)) in
    rw c.free_cell.ensures few

pub raise-requires-in-loop-i-clause-within : goal.raise-requires-in-loop-i-clause-within
raise-requires-in-loop-i-clause-within c =
    let low : c.loop-i.i < length c.args.layout.now.lines = omega arith in
    let short = short_line c.args.layout.now c.loop-i.i c.line.result.now c.line.ensures.shape
    c.line.ensures.points low in
    let within = free_cell-within c.args.layout.now Y (length c.line.result.now) short in
    let same = ap length c.raise.ensures ∙ length-set c.loop-i.cells _ _ in
    omega (arith, c.free_cell-in-loop-i.ensures, c.loop-i.invariant.width)

pub raise-requires-in-loop-i-clause-few : goal.raise-requires-in-loop-i-clause-few
raise-requires-in-loop-i-clause-few c =
    let low : c.loop-i.i < length c.args.layout.now.lines = omega arith in
    let short = short_line c.args.layout.now c.loop-i.i c.line.result.now c.line.ensures.shape
    c.line.ensures.points low in
    let few = blank-few c.args.layout.now c.loop-i.i c.loop-i.cells Y (length c.line.result.now)
    c.loop-i.invariant short (omega (arith, c.line.ensures.shape.few_lines)) in
    let first = c.raise.ensures
    ∙ ap (λ k. set c.loop-i.cells k (get_or c.loop-i.cells c.free_cell.result 0 + 1))
    c.free_cell.ensures in
    let same = ap (λ cells. lines_in c.args.layout.now cells Y (length c.line.result.now)) first
    ∙ blank-theirs c.args.layout.now c.loop-i.cells (length c.line.result.now) _ short in
    let at = ap (λ k. get_or c.raise.new.cells k 0) c.free_cell-in-loop-i.ensures in
    omega arith

pub loop-i-preserved : goal.loop-i-preserved
loop-i-preserved c =
    let low : c.loop-i.i < length c.args.layout.now.lines = omega arith in
    let short = short_line c.args.layout.now c.loop-i.i c.line.result.now c.line.ensures.shape
    c.line.ensures.points low in
    let first = c.raise.ensures
    ∙ ap (λ k. set c.loop-i.cells k (get_or c.loop-i.cells k 0 + 1)) c.free_cell.ensures in
    let second = c.raise-in-loop-i.ensures
    ∙ ap (λ k. set c.raise.new.cells k (get_or c.raise.new.cells k 0 + 1))
    c.free_cell-in-loop-i.ensures in
    blank-more c.args.layout.now c.loop-i.i c.loop-i.cells c.raise.new.cells
    c.raise-in-loop-i.new.cells (length c.line.result.now) c.loop-i.invariant
    (ap length c.line.ensures.points) short first second
