use Rattle.std.proofs.Common.{◌+◌, ◌^◌, ◌<◌, ◌≤◌, ◌∙◌, ℕ, length, get_or, ap, arith}
use Rattle.pg_board.proofs.Common.{take_all, sum_by_more, sum_by, points_of, line_weight}
use Rattle.pg_board.specs.Shape.{line_in, lines_through}
use Rattle.pg_board.specs.Fits.{position_of}
use Rattle.pg_board.proofs.Through.{through-below}
use Rattle.pg_board.proofs.Weighing.{through-sum, part-fits, weight-few}
use Rattle.pg_board.proofs.totals.weight.Goals as goal

pub live_weight-weight-requires-clause-range : goal.live_weight-weight-requires-clause-range
live_weight-weight-requires-clause-range c =
    let is = c.through-line-items.ensures.lines in
    let low : c.loop-line.line-index < length (lines_through c.args.layout.now c.args.v) =
    omega (arith, c.loop-line-test.true, ap length is) in
    rw is (through-below c.args.layout.now c.args.v c.loop-line.line-index low)

pub overflow_add-weight : goal.overflow_add-weight
overflow_add-weight c =
    let s = c.args.layout.now in
    let p = position_of s c.args.trail.now.cells in
    let is = c.through-line-items.ensures.lines in
    let low : c.loop-line.line-index < length (lines_through s c.args.v) =
    omega (arith, c.loop-line-test.true, ap length is) in
    let here = c.live_weight-weight.ensures
    ∙ ap (λ xs. line_weight c.args.base s.longest (points_of p c.args.side) p
    (line_in s (get_or xs c.loop-line.line-index 0))) is in
    let fits = part-fits s c.args.trail.now.cells c.requires.agrees c.args.base c.args.side c.args.v
    c.loop-line.line-index c.requires.fits low in
    let small : c.loop-line.weight + c.live_weight-weight.result < 2 ^ 128 =
    omega (arith, fits, here, c.loop-line.invariant) in
    search

pub loop-line-preserved : goal.loop-line-preserved
loop-line-preserved c =
    let s = c.args.layout.now in
    let p = position_of s c.args.trail.now.cells in
    let is = c.through-line-items.ensures.lines in
    let low : c.loop-line.line-index < length (lines_through s c.args.v) =
    omega (arith, c.loop-line-test.true, ap length is) in
    let here = c.live_weight-weight.ensures
    ∙ ap (λ xs. line_weight c.args.base s.longest (points_of p c.args.side) p
    (line_in s (get_or xs c.loop-line.line-index 0))) is in
    omega (
      arith,
      here,
      c.loop-line.invariant,
      sum_by_more
          (λ (i : ℕ). line_weight c.args.base s.longest (points_of p c.args.side) p (line_in s i))
          (lines_through s c.args.v) c.loop-line.line-index 0 low,
    )

pub returns-clause-exact : goal.returns-clause-exact
returns-clause-exact c =
    let s = c.args.layout.now in
    let p = position_of s c.args.trail.now.cells in
    let end : length (lines_through s c.args.v) ≤ c.loop-line.line-index =
    omega (arith, c.loop-line-test.false, ap length c.through-line-items.ensures.lines) in
    c.loop-line.invariant
    ∙ (ap (sum_by (λ (i : ℕ).
    line_weight c.args.base s.longest (points_of p c.args.side) p (line_in s i)))
    (take_all c.loop-line.line-index (lines_through s c.args.v) end)
    ∙ through-sum s c.args.trail.now.cells c.requires.agrees c.args.base c.args.side c.args.v)

pub returns-clause-few : goal.returns-clause-few
returns-clause-few c =
    let s = c.args.layout.now in
    let p = position_of s c.args.trail.now.cells in
    let end : length (lines_through s c.args.v) ≤ c.loop-line.line-index =
    omega (arith, c.loop-line-test.false, ap length c.through-line-items.ensures.lines) in
    let whole = c.loop-line.invariant
    ∙ (ap (sum_by (λ (i : ℕ). line_weight c.args.base s.longest (points_of p c.args.side) p
    (line_in s i))) (take_all c.loop-line.line-index (lines_through s c.args.v) end)
    ∙ through-sum s c.args.trail.now.cells c.requires.agrees c.args.base c.args.side c.args.v) in
    omega (
      arith,
      whole,
      weight-few s c.args.trail.now.cells c.requires.agrees c.args.base c.args.side c.args.v
          c.requires.fits,
    )
