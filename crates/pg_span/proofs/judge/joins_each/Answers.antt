use Rattle.std.proofs.Common.{sym, arith}
use Rattle.pg_span.proofs.Common.{both_ways, contains}
use Rattle.pg_span.proofs.Connects.{connects-apart, connects-each}
use Rattle.pg_span.proofs.judge.joins_each.Goals as goal

pub returns-then-not-joined-clause-joins : goal.returns-then-not-joined-clause-joins
returns-then-not-joined-clause-joins c = sym
    (connects-apart c.args.graph.now (contains c.args.set.now) c.loop-v.v c.requires.some (omega (
      arith,
      c.loop-v-test.true,
    )) (λ j. both_ways _ c.if-not-joined.true (c.joined.ensures.joined.1 j)))

pub returns-clause-joins : goal.returns-clause-joins
returns-clause-joins c = sym
    (connects-each c.args.graph.now (contains c.args.set.now) c.requires.set
    (λ v low. c.loop-v.invariant.1 v (omega (arith, low, c.loop-v-test.false))))
