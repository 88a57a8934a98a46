use Rattle.std.proofs.Common.{refl, ap, sym, ◌∙◌, arith}
use Rattle.std.proofs.lemmas.List.{get_or-replicate}
use Rattle.pg_game.specs.Potential.{greatest_length}
use Rattle.pg_game.proofs.LineSums.{length-le-greatest, full_weight-is, total-fits, points-le}
use Rattle.pg_game.proofs.WeightWalks.{weights-all}
use Rattle.pg_game.proofs.WeightBounds.{greatest_length-few}
use Rattle.std.proofs.Common.{take}
use Rattle.pg_game.proofs.weights.weigh.Goals as goal

pub loop-line-init : goal.loop-line-init
loop-line-init c = record {
  total = refl;
  count = refl;
  points = λ v h. get_or-replicate 256 v 0 0 h;
}

pub line_weight-weight-requires-clause-few : goal.line_weight-weight-requires-clause-few
line_weight-weight-requires-clause-few c =
    let longest =
    c.greatest_length-longest.ensures ∙ ap greatest_length c.lines-lines.ensures.lines in
    omega (arith, longest, greatest_length-few c.args.g.now)

pub line_weight-weight-requires-clause-short : goal.line_weight-weight-requires-clause-short
line_weight-weight-requires-clause-short c = omega (
  arith,
  c.greatest_length-longest.ensures,
  length-le-greatest c.lines-lines.result.now c.line-item.result
      (c.loop-line.line-index, c.loop-line-test.true, sym c.line-item.is),
)

pub line_weight-weight-requires-clause-fits : goal.line_weight-weight-requires-clause-fits
line_weight-weight-requires-clause-fits c =
    let longest =
    c.greatest_length-longest.ensures ∙ ap greatest_length c.lines-lines.ensures.lines in
    omega (
      arith,
      full_weight-is c.args.base c.args.g.now c.greatest_length-longest.result longest,
      c.requires.few,
    )

pub overflow_add-total : goal.overflow_add-total
overflow_add-total c =
    let longest =
    c.greatest_length-longest.ensures ∙ ap greatest_length c.lines-lines.ensures.lines in
    let fits =
    total-fits c.args.base c.args.g.now c.args.own.now c.args.p.now c.lines-lines.result.now
    c.greatest_length-longest.result c.loop-line.line-index c.line-item.result c.requires
    c.lines-lines.ensures.lines longest c.loop-line-test.true c.line-item.is in
    omega (arith, fits, c.loop-line.invariant.total, c.line_weight-weight.ensures)

pub add_weight-requires-clause-fits : goal.add_weight-requires-clause-fits
add_weight-requires-clause-fits c = λ v small.
    let longest =
    c.greatest_length-longest.ensures ∙ ap greatest_length c.lines-lines.ensures.lines in
    let fits =
    total-fits c.args.base c.args.g.now c.args.own.now c.args.p.now c.lines-lines.result.now
    c.greatest_length-longest.result c.loop-line.line-index c.line-item.result c.requires
    c.lines-lines.ensures.lines longest c.loop-line-test.true c.line-item.is in
    let le = points-le c.args.base c.greatest_length-longest.result c.args.own.now c.args.p.now v
    (take c.loop-line.line-index c.lines-lines.result.now) in
    omega (arith, fits, le, c.loop-line.invariant.points v small, c.line_weight-weight.ensures)

pub returns : goal.returns
returns c =
    let longest =
    c.greatest_length-longest.ensures ∙ ap greatest_length c.lines-lines.ensures.lines in
    weights-all c.args.base c.args.g.now c.args.own.now c.args.p.now c.lines-lines.result.now
    c.greatest_length-longest.result c.loop-line.line-index c.loop-line.total c.loop-line.points
    c.lines-lines.ensures.lines longest c.loop-line-test.false c.loop-line.invariant.total
    c.loop-line.invariant.count c.loop-line.invariant.points
