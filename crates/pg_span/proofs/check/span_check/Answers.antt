use Rattle.pg_span.proofs.Checking.{valid-all}
use Rattle.pg_span.proofs.check.span_check.Goals as goal

pub invariant_of-result : goal.invariant_of-result
invariant_of-result c = record {
  valid =
      ∣ valid-all c.args.g.now c.args.c.now c.as_slice-claims.result.now c.loop-k.k
      c.as_slice-claims.ensures c.loop-k-test.false c.loop-k.invariant.1 ∣₁;
}

pub returns-clause-valid : goal.returns-clause-valid
returns-clause-valid c = valid-all c.args.g.now c.args.c.now c.as_slice-claims.result.now c.loop-k.k
    c.as_slice-claims.ensures c.loop-k-test.false c.loop-k.invariant.1
