use Rattle.std.proofs.Common.{◌<◌, length}
use Rattle.pg_pattern_leaves.proofs.pairing.cheapest.Given as goal

abbrev pub invariant-loop-i : goal.invariant-loop-i
invariant-loop-i l = l.best < length l.choices
