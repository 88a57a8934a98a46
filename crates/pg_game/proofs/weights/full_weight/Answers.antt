use Rattle.std.proofs.Common.{◌≡◌, ap, ◌∙◌, arith}
use Rattle.pg_game.specs.Game.{lines_of}
use Rattle.pg_game.specs.Potential.{greatest_length}
use Rattle.pg_game.proofs.LineSums.{full_weight-is}
use Rattle.pg_game.proofs.WeightBounds.{greatest_length-few}
use Rattle.pg_game.proofs.weights.full_weight.Goals as goal

pub power-requires-clause-few : goal.power-requires-clause-few
power-requires-clause-few c =
    let is : c.greatest_length.result ≡ greatest_length (lines_of c.args.g.now) =
    c.greatest_length.ensures ∙ ap greatest_length c.lines.ensures.lines in
    omega (arith, is, greatest_length-few c.args.g.now)

pub power-requires-clause-fits : goal.power-requires-clause-fits
power-requires-clause-fits c =
    let is = full_weight-is c.args.base c.args.g.now c.greatest_length.result
    (c.greatest_length.ensures ∙ ap greatest_length c.lines.ensures.lines) in
    omega (arith, is, c.requires.few)

pub returns : goal.returns
returns c = c.power.ensures
    ∙ full_weight-is c.args.base c.args.g.now c.greatest_length.result
    (c.greatest_length.ensures ∙ ap greatest_length c.lines.ensures.lines)
