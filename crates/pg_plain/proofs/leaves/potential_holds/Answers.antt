use Rattle.std.proofs.Common.{◌≤◌, ◌^◌, ◌∙◌, arith}
use Rattle.std.proofs.lemmas.Nat.{mul-le}
use Rattle.pg_plain.proofs.LeafLaws.{total-le, greatest_weight-le, potential_holds-is}
use Rattle.pg_plain.proofs.leaves.potential_holds.Goals as goal

pub overflow_mul-result : goal.overflow_mul-result
overflow_mul-result c =
    let few : c.greatest_weight.result ≤ 2 ^ 115 = omega (
      arith,
      c.greatest_weight.ensures,
      greatest_weight-le c.args.g.now c.args.p.now c.args.side,
    ) in
    let times : c.from-times.result ≤ 7 =
    omega (arith, c.from-times.ensures, c.times_counted.ensures.few) in
    omega (arith, mul-le c.from-times.result c.greatest_weight.result 7 (2 ^ 115) times few)

pub overflow_add-result : goal.overflow_add-result
overflow_add-result c =
    let few : c.greatest_weight.result ≤ 2 ^ 115 = omega (
      arith,
      c.greatest_weight.ensures,
      greatest_weight-le c.args.g.now c.args.p.now c.args.side,
    ) in
    let times : c.from-times.result ≤ 7 =
    omega (arith, c.from-times.ensures, c.times_counted.ensures.few) in
    omega (
      arith,
      mul-le c.from-times.result c.greatest_weight.result 7 (2 ^ 115) times few,
      c.total.ensures,
      total-le c.args.g.now c.args.p.now c.args.side,
    )

pub returns : goal.returns
returns c = potential_holds-is c.args.g.now c.args.p.now c.args.side c.total.result
    c.from-times.result c.greatest_weight.result c.limit.result c.total.ensures
    (c.from-times.ensures ∙ c.times_counted.ensures.times) c.greatest_weight.ensures c.limit.ensures
