use Rattle.std.proofs.Common.{◌∙◌, ◌≤◌, ◌^◌, ◌-◌, ap, ap₂, arith, subst, sym}
use Rattle.pg_scene.proofs.Common.{one-le-pow, greatest_length, greatest_length-few}
use Rattle.pg_captions.proofs.Lightest.{base_power, base_some}
use Rattle.pg_scene.specs.Items.{unit_weight}
use Rattle.pg_scene.proofs.weights.unit_weight.Goals as goal

pub overflow_cast-steps : goal.overflow_cast-steps
overflow_cast-steps c =
    let few = greatest_length-few c.args.g.now in
    let length = c.greatest_length.ensures ∙ ap greatest_length c.lines.ensures.lines in
    omega (arith, few, length)

pub pow-requires : goal.pow-requires
pow-requires c =
    let length = c.greatest_length.ensures ∙ ap greatest_length c.lines.ensures.lines in
    base_power c.args.g.now c.from.result (c.greatest_length.result - c.most_free.result)
    (c.from.ensures ∙ c.base_of.ensures) (omega (arith, length))

pub returns-clause-unit : goal.returns-clause-unit
unfolding unit_weight
returns-clause-unit c =
    let length = c.greatest_length.ensures ∙ ap greatest_length c.lines.ensures.lines in
    c.pow.ensures
    ∙ ap₂ (λ base steps. base ^ steps) (c.from.ensures ∙ c.base_of.ensures)
    (ap₂ (λ all most. all - most) length c.most_free.ensures.most)

pub returns-clause-some : goal.returns-clause-some
returns-clause-some c =
    let some = base_some c.args.g.now c.from.result (c.from.ensures ∙ c.base_of.ensures) in
    subst (λ n. 1 ≤ n) (sym c.pow.ensures)
    (one-le-pow (c.greatest_length.result - c.most_free.result) c.from.result (omega (arith, some)))
