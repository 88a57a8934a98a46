use Rattle.std.proofs.Common.{◌≡◌, ◌<◌, ◌≤◌, ◌-◌, ℕ, length, true}
use Rattle.pg_gf2.proofs.Common.{contains, vec_capacity, minus}
use Rattle.pg_gf2.specs.Vectors.{vector_spans}
use Rattle.pg_gf2.proofs.room.unneeded_below.Given as goal

abbrev pub invariant-loop-low : goal.invariant-loop-low
invariant-loop-low l = record {
  order : l.low ≤ l.high;
  limit : l.high ≤ l.n;
  room : length l.vectors ≤ vec_capacity l.rows;
  unneeded : (d : ℕ)
      → d < l.low
      → contains l.candidates d ≡ true
      → vector_spans l.vectors (minus (contains l.set) d) l.x ≡ true;
}

abbrev pub decreases-loop-low : goal.decreases-loop-low
decreases-loop-low l = l.high - l.low
