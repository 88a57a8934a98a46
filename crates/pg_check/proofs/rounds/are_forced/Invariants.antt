use Rattle.std.proofs.Common.{◌≡◌}
use Rattle.pg_check.specs.Rounds.{before_round, AreForced}
use Rattle.pg_check.proofs.rounds.are_forced.Given as goal

abbrev pub invariant-loop-i : goal.invariant-loop-i
invariant-loop-i l = record {
  before : l.before ≡ before_round l.g l.p l.points l.i;
  forced : AreForced l.g l.p l.points l.i l.side;
}
