use Rattle.std.proofs.Common.{◌≡◌, ℕ, ◌+◌, suc, nat_lt, length, ap, ◌∙◌, arith}
use Rattle.pg_exchange.proofs.Tests.{of_outside}
use Rattle.pg_gf2.proofs.ConditionLemmas.{kept-sets}
use Rattle.pg_gf2.proofs.condition.kept.Goals as goal

pub returns : goal.returns
returns c turn =
    let g = c.args.g.now in
    let limit : c.number_of_e.result + 1 ≡ suc (length g.vectors) =
    omega (arith, c.number_of_e.ensures.number) in
    kept-sets c.all_below.result g.y c.without.result (suc (length g.vectors))
    (λ v. c.all_below.ensures v ∙ ap (λ (m : ℕ). nat_lt v m) limit)
    (of_outside c.all_below.result g.y c.without.result c.without.ensures.difference)
