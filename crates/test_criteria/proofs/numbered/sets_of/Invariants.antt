use Rattle.pg_base.specs.Points.{AreBelow}
use Rattle.test_criteria.proofs.numbered.sets_of.Given as goal

abbrev pub invariant-loop-v : goal.invariant-loop-v
invariant-loop-v l = record {
  first : AreBelow l.first l.count;
  second : AreBelow l.second l.count;
}
