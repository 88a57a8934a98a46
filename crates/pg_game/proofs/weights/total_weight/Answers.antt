use Rattle.std.proofs.Common.{ap, sym, ◌∙◌, arith}
use Rattle.pg_game.specs.Potential.{greatest_length}
use Rattle.pg_game.proofs.LineSums.{length-le-greatest, full_weight-is, total-fits, total-all}
use Rattle.pg_game.proofs.WeightBounds.{greatest_length-few, total-few}
use Rattle.pg_game.proofs.weights.total_weight.Goals as goal

pub line_weight-total-requires-clause-few : goal.line_weight-total-requires-clause-few
line_weight-total-requires-clause-few c =
    let longest =
    c.greatest_length-longest.ensures ∙ ap greatest_length c.lines-lines.ensures.lines in
    omega (arith, longest, greatest_length-few c.args.g.now)

pub line_weight-total-requires-clause-short : goal.line_weight-total-requires-clause-short
line_weight-total-requires-clause-short c = omega (
  arith,
  c.greatest_length-longest.ensures,
  length-le-greatest c.lines-lines.result.now c.line-item.result
      (c.loop-line.line-index, c.loop-line-test.true, sym c.line-item.is),
)

pub line_weight-total-requires-clause-fits : goal.line_weight-total-requires-clause-fits
line_weight-total-requires-clause-fits c =
    let longest =
    c.greatest_length-longest.ensures ∙ ap greatest_length c.lines-lines.ensures.lines in
    omega (
      arith,
      full_weight-is c.args.base c.args.g.now c.greatest_length-longest.result longest,
      c.requires.few,
    )

pub overflow_add-total : goal.overflow_add-total
overflow_add-total c =
    let longest =
    c.greatest_length-longest.ensures ∙ ap greatest_length c.lines-lines.ensures.lines in
    let fits =
    total-fits c.args.base c.args.g.now c.args.own.now c.args.p.now c.lines-lines.result.now
    c.greatest_length-longest.result c.loop-line.line-index c.line-item.result c.requires
    c.lines-lines.ensures.lines longest c.loop-line-test.true c.line-item.is in
    omega (arith, fits, c.loop-line.invariant, c.line_weight-total.ensures)

pub returns-clause-total : goal.returns-clause-total
returns-clause-total c =
    let longest =
    c.greatest_length-longest.ensures ∙ ap greatest_length c.lines-lines.ensures.lines in
    total-all c.args.base c.args.g.now c.args.own.now c.args.p.now c.lines-lines.result.now
    c.greatest_length-longest.result c.loop-line.line-index c.loop-line.total
    c.lines-lines.ensures.lines longest c.loop-line-test.false c.loop-line.invariant

pub returns-clause-few : goal.returns-clause-few
returns-clause-few c =
    let longest =
    c.greatest_length-longest.ensures ∙ ap greatest_length c.lines-lines.ensures.lines in
    let total =
    total-all c.args.base c.args.g.now c.args.own.now c.args.p.now c.lines-lines.result.now
    c.greatest_length-longest.result c.loop-line.line-index c.loop-line.total
    c.lines-lines.ensures.lines longest c.loop-line-test.false c.loop-line.invariant in
    omega (
      arith,
      total,
      total-few c.args.base c.args.g.now c.args.own.now c.args.p.now c.requires.some c.requires.few,
    )
