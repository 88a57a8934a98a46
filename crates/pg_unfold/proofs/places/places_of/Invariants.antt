use Rattle.std.proofs.Common.{◌≡◌, vec_len}
use Rattle.pg_unfold.specs.Marks.{ArePlacedBelow}
use Rattle.pg_unfold.proofs.places.places_of.Given as goal

abbrev pub invariant-loop-key : goal.invariant-loop-key
invariant-loop-key l = record {
  len : vec_len l.places ≡ l.key;
  placed : ArePlacedBelow l.nodes l.marks l.places.items l.key l.count;
}
