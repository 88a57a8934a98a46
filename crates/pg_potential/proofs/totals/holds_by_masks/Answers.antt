use Rattle.std.proofs.Common.{◌+◌, ◌∙◌, ℕ, ap}
use Rattle.pg_game.proofs.LineSums.{full_weight-is}
use Rattle.pg_game.specs.Potential.{full_weight}
use Rattle.pg_potential.proofs.Common.{greatest_length}
use Rattle.pg_potential.proofs.MaskWeights.{weighing}
use Rattle.pg_potential.proofs.totals.holds_by_masks.Goals as goal

pub total_by_masks-sum-requires-clause-longest : goal.total_by_masks-sum-requires-clause-longest
total_by_masks-sum-requires-clause-longest c =
    c.greatest_length-longest.ensures ∙ ap greatest_length c.lines.ensures.lines

pub power-most-requires-clause-few : goal.power-most-requires-clause-few
power-most-requires-clause-few c =
    (weighing c.args.g.now c.from.result c.greatest_length-longest.result c.from.ensures
    (c.greatest_length-longest.ensures ∙ ap greatest_length c.lines.ensures.lines)).few

pub power-most-requires-clause-fits : goal.power-most-requires-clause-fits
power-most-requires-clause-fits c =
    (weighing c.args.g.now c.from.result c.greatest_length-longest.result c.from.ensures
    (c.greatest_length-longest.ensures ∙ ap greatest_length c.lines.ensures.lines)).fits

pub is_low-requires-clause-most : goal.is_low-requires-clause-most
is_low-requires-clause-most c =
    let longest = c.greatest_length-longest.ensures ∙ ap greatest_length c.lines.ensures.lines in
    c.power-most.ensures
    ∙ full_weight-is (1 + c.from.result) c.args.g.now c.greatest_length-longest.result longest
    ∙ ap (λ (n : ℕ). full_weight (1 + n) c.args.g.now) c.from.ensures
