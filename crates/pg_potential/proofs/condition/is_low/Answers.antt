use Rattle.std.proofs.Common.{◌∙◌, ◌<◌, ◌≤◌, ◌+◌, ◌*◌, ◌^◌, ℕ, subst, subst₂, refl, arith}
use Rattle.pg_potential.proofs.Common.{mul-le-mul_left, false≢true, total, limit, greatest_weight}
use Rattle.std.proofs.lemmas.Nat.{mul-le}
use Rattle.pg_potential.proofs.GreatestWeight.{greatest_weight-le}
use Rattle.pg_potential.proofs.condition.is_low.Goals as goal

pub returns-then-sum-most : goal.returns-then-sum-most
returns-then-sum-most c = (
  λ f. absurd (false≢true f),
  λ h. absurd (omega (
    arith,
    h,
    c.if-sum-most.true,
    c.requires.sum,
    c.requires.most,
  )),
)

pub overflow_mul-times : goal.overflow_mul-times
overflow_mul-times c =
    let times : c.from-times.result ≤ 7 =
    omega (arith, c.from-times.ensures, c.times_counted.ensures.few) in
    omega (
      arith,
      mul-le c.from-times.result c.args.sum 7
          (2 ^ 115) times c.requires.few,
    )

pub overflow_add-sum : goal.overflow_add-sum
overflow_add-sum c =
    let times : c.from-times.result ≤ 7 =
    omega (arith, c.from-times.ensures, c.times_counted.ensures.few) in
    omega (
      arith,
      mul-le c.from-times.result c.args.sum 7
          (2 ^ 115) times c.requires.few,
      c.requires.few,
    )

pub returns-then-sum-times : goal.returns-then-sum-times
returns-then-sum-times c =
    let g = c.args.g.now in
    let p = c.args.p.now in
    let side = c.args.side in
    let t = c.from-times.result in
    let le = mul-le-mul_left t (greatest_weight-le g p side) in
    let low = subst₂ (λ (a b : ℕ). a + t * a < b) c.requires.sum
    c.requires.most c.if-sum-times.true in
    let all : total g p side + t * greatest_weight g p side < limit g = omega (arith, low, le) in (
      λ on. subst (λ (k : ℕ). total g p side + k * greatest_weight g p side < limit g)
          (c.from-times.ensures ∙ c.times_counted.ensures.times) all,
      λ h. refl,
    )

pub overflow_mul-result : goal.overflow_mul-result
overflow_mul-result c =
    let times : c.from-times.result ≤ 7 =
    omega (arith, c.from-times.ensures, c.times_counted.ensures.few) in
    let few : c.greatest_weight.result ≤ 2 ^ 115 = omega (
      arith,
      c.greatest_weight.ensures,
      greatest_weight-le c.args.g.now c.args.p.now c.args.side,
      c.requires.sum,
      c.requires.few,
    ) in
    omega (arith, mul-le c.from-times.result c.greatest_weight.result 7 (2 ^ 115) times few)

pub overflow_add-result : goal.overflow_add-result
overflow_add-result c =
    let times : c.from-times.result ≤ 7 =
    omega (arith, c.from-times.ensures, c.times_counted.ensures.few) in
    let few : c.greatest_weight.result ≤ 2 ^ 115 = omega (
      arith,
      c.greatest_weight.ensures,
      greatest_weight-le c.args.g.now c.args.p.now c.args.side,
      c.requires.sum,
      c.requires.few,
    ) in
    omega (
      arith,
      mul-le c.from-times.result c.greatest_weight.result 7 (2 ^ 115) times few,
      c.requires.few,
    )
