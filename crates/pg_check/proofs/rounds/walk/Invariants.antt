use Rattle.std.proofs.Common.{◌≡◌, length}
use Rattle.pg_check.specs.Rounds.{before_round, AreRounds, AreTimes}
use Rattle.pg_check.proofs.rounds.walk.Given as goal

abbrev pub invariant-loop-i : goal.invariant-loop-i
invariant-loop-i l = record {
  last : l.last ≡ before_round l.g l.p l.points l.i;
  rounds : AreRounds l.g l.p l.points l.i;
  timed : AreTimes l.g l.p l.points l.i l.times;
  long : length l.times ≡ 1024;
}
