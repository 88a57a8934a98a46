use Rattle.std.proofs.Common.{◌≡◌, ℕ, arith, subst, true}
use Rattle.pg_plan.specs.Places.{names_earlier}
use Rattle.pg_split.proofs.Planned.{place_more}
use Rattle.pg_split.proofs.places.is_plan.Goals as goal

pub loop-place-preserved : goal.loop-place-preserved
loop-place-preserved c = record {
  counted = omega arith;
  are = place_more c.args.places.now c.loop-place.place-index c.place-item.result
      c.loop-place-test.true c.place-item.is
      (c.is_place.ensures.range c.if-not-is_place.false)
      (subst (λ (n : ℕ). names_earlier n c.place-item.result ≡ true) c.loop-place.invariant.counted
      (c.is_place.ensures.earlier c.if-not-is_place.false)) c.loop-place.invariant.are;
}
