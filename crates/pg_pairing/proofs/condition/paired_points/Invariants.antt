use Rattle.std.proofs.Common.{◌≡◌, take}
use Rattle.pg_pairing.proofs.Common.{AreOpenPairs}
use Rattle.pg_pairing.proofs.PairLoops.{AreTaken}
use Rattle.pg_pairing.proofs.condition.paired_points.Given as goal

abbrev pub invariant-loop-s : goal.invariant-loop-s
invariant-loop-s l = record {
  open_pairs : AreOpenPairs l.g l.p (take l.s-index l.pairs);
  taken : AreTaken l.p (take l.s-index l.pairs) l.taken;
  points : l.points ≡ l.initial.points;
}
