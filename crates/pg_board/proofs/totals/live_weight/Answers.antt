use Rattle.std.proofs.Common.{◌≡◌, ◌-◌, ◌^◌, ◌∙◌, length, get_or, sym, ap, arith}
use Rattle.pg_base.specs.Side.{other}
use Rattle.pg_board.specs.Shape.{line_in, count_cell}
use Rattle.pg_board.specs.Counts.{count_in}
use Rattle.pg_board.proofs.CellPlaces.{count_cell-within}
use Rattle.pg_board.proofs.Weighing.{weight-taken, weight-left, weight-bound}
use Rattle.pg_board.proofs.totals.live_weight.Goals as goal

pub get-requires : goal.get-requires
get-requires c = omega (
  arith,
  c.count_cell.ensures,
  count_cell-within c.args.layout.now c.args.side c.args.line c.requires.range,
  c.requires.agrees.counted.width,
)

pub returns-then-get-ne0 : goal.returns-then-get-ne0
returns-then-get-ne0 c =
    let own : c.get.result
    ≡ count_in c.args.layout.now c.args.trail.now.cells c.args.side c.args.line =
    c.get.ensures ∙ ap (λ k. get_or c.args.trail.now.cells k 0) c.count_cell.ensures in
    sym
    (weight-taken c.args.layout.now c.args.trail.now.cells c.requires.agrees c.args.base c.args.side
    c.args.line c.requires.range (λ none. c.if-get-ne0.true (own ∙ none)))

pub get-theirs-requires : goal.get-theirs-requires
get-theirs-requires c =
    let cell =
    c.count_cell-2.ensures ∙ ap (λ k. count_cell c.args.layout.now k c.args.line) c.other.ensures in
    omega (
      arith,
      cell,
      count_cell-within c.args.layout.now (other c.args.side) c.args.line c.requires.range,
      c.requires.agrees.counted.width,
    )

pub power-requires : goal.power-requires
power-requires c =
    let longest = c.from.ensures ∙ c.longest.ensures in
    omega (
      arith,
      weight-bound c.args.base c.args.layout.now
          (c.from.result - (length c.line.result.now - c.get-theirs.result)) c.requires.fits
          (omega (arith, longest)),
    )

pub returns : goal.returns
returns c =
    let own : c.get.result
    ≡ count_in c.args.layout.now c.args.trail.now.cells c.args.side c.args.line =
    c.get.ensures ∙ ap (λ k. get_or c.args.trail.now.cells k 0) c.count_cell.ensures in
    let cell =
    c.count_cell-2.ensures ∙ ap (λ k. count_cell c.args.layout.now k c.args.line) c.other.ensures in
    let theirs : c.get-theirs.result
    ≡ count_in c.args.layout.now c.args.trail.now.cells (other c.args.side) c.args.line =
    c.get-theirs.ensures ∙ ap (λ k. get_or c.args.trail.now.cells k 0) cell in
    let longest = c.from.ensures ∙ c.longest.ensures in
    let len = ap length c.line.ensures.points in
    let same : c.from.result - (length c.line.result.now - c.get-theirs.result)
    ≡ c.args.layout.now.longest - (length (line_in c.args.layout.now c.args.line)
    - count_in c.args.layout.now c.args.trail.now.cells (other c.args.side) c.args.line) =
    omega (arith, longest, len, theirs) in
    c.power.ensures
    ∙ (ap (λ n. c.args.base ^ n) same
    ∙ weight-left c.args.layout.now c.args.trail.now.cells c.requires.agrees c.args.base c.args.side
    c.args.line c.requires.range (sym own ∙ c.if-get-ne0.false))
