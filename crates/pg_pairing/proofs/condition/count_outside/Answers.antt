use Rattle.std.proofs.Common.{◌≡◌, ◌&&◌, not, sym, ◌∙◌, arith}
use Rattle.pg_pairing.proofs.Common.{contains, is_free, passed-none, passed-more, passed-same}
use Rattle.pg_pairing.proofs.Common.{passed-both}
use Rattle.pg_pairing.proofs.condition.count_outside.Goals.{then-is_outside, else-is_outside}
use Rattle.pg_pairing.proofs.condition.count_outside.Goals as goal

pub loop-v-init : goal.loop-v-init
loop-v-init c = record {
  counted = sym (passed-none (λ v. is_free c.args.p.now v && not (contains c.args.points.now v)));
  few = omega arith;
}

pub loop-v-preserved : goal.loop-v-preserved
loop-v-preserved c =
    elim c.if-is_outside.branch [
      | then-is_outside w ↦ record {
        counted = passed-more (λ v. is_free c.args.p.now v && not (contains c.args.points.now v))
            c.loop-v.v c.loop-v.outside c.if-is_outside.outside c.loop-v.invariant.counted
            (sym c.is_outside.ensures ∙ w.if-is_outside.true) w.outside-is;
        few = omega (arith, c.loop-v.invariant.few, w.outside-is);
      }
      | else-is_outside w ↦ record {
        counted = passed-same (λ v. is_free c.args.p.now v && not (contains c.args.points.now v))
            c.loop-v.v c.loop-v.outside c.if-is_outside.outside c.loop-v.invariant.counted
            (sym c.is_outside.ensures ∙ w.if-is_outside.false) w.outside-is;
        few = omega (arith, c.loop-v.invariant.few, w.outside-is);
      }
    ]

pub returns : goal.returns
returns c =
    let end : c.loop-v.v ≡ c.points-v-end.result =
    omega (arith, c.loop-v-test.false, c.loop-v.auto.v-end) in
    c.loop-v.invariant.counted
    ∙ passed-both c.args.g.now c.args.p.now (λ v. not (contains c.args.points.now v)) c.loop-v.v
    (end ∙ c.points-v-end.ensures.count)
