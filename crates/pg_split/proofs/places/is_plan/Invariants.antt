use Rattle.std.proofs.Common.{◌≡◌, take}
use Rattle.pg_plan.specs.Places.{ArePlaces}
use Rattle.pg_split.proofs.places.is_plan.Given as goal

abbrev pub invariant-loop-place : goal.invariant-loop-place
invariant-loop-place l = record {
  counted : l.count ≡ l.place-index;
  are : ArePlaces 0 (take l.place-index l.places);
}
