use Rattle.std.proofs.Common.{sym, subst}
use Rattle.std.specs.FinSet.{FinSet}
use Rattle.std.specs.Ordering.{nat_cmp}
use Rattle.pg_base.specs.Points.{AreBelow}
use Rattle.pg_base.proofs.PointSetLaws.{AreBelow-empty, AreBelow-insert}
use Rattle.test_criteria.proofs.numbered.sets_of.Goals as goal
use Rattle.test_criteria.proofs.numbered.sets_of.Goals.{then-number-v-eq1, else-number-v-eq1}
use Rattle.test_criteria.proofs.numbered.sets_of.Goals.{then-number-v-eq2, else-number-v-eq2}

pub loop-v-init : goal.loop-v-init
loop-v-init c = record {
  first = subst (λ (s : FinSet nat_cmp). AreBelow s c.args.count) (sym c.empty-first.ensures)
      (AreBelow-empty c.args.count);
  second = subst (λ (s : FinSet nat_cmp). AreBelow s c.args.count) (sym c.empty-second.ensures)
      (AreBelow-empty c.args.count);
}

pub loop-v-preserved : goal.loop-v-preserved
loop-v-preserved c = record {
  first = elim c.if-number-v-eq1.branch [
    | then-number-v-eq1 w ↦ rw (w.first-is, w.put.ensures)
        (AreBelow-insert c.loop-v.first c.loop-v.v c.args.count c.loop-v.invariant.first
        c.loop-v-test.true)
    | else-number-v-eq1 w ↦ rw w.first-is c.loop-v.invariant.first
  ];
  second = elim c.if-number-v-eq2.branch [
    | then-number-v-eq2 w ↦ rw (w.second-is, w.put-then-number-v-eq2.ensures)
        (AreBelow-insert c.loop-v.second c.loop-v.v c.args.count c.loop-v.invariant.second
        c.loop-v-test.true)
    | else-number-v-eq2 w ↦ rw w.second-is c.loop-v.invariant.second
  ];
}
