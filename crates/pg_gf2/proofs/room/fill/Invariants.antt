use Rattle.std.proofs.Common.{◌≤◌, length, false}
use Rattle.pg_gf2.proofs.Common.{contains, vec_len, vec_capacity, below, IsWithin}
use Rattle.pg_gf2.specs.Vectors.{vector_at}
use Rattle.pg_gf2.specs.Rows.{IsEliminated}
use Rattle.pg_gf2.proofs.room.fill.Given as goal

abbrev pub invariant-loop-k : goal.invariant-loop-k
invariant-loop-k l = record {
  eliminated : IsEliminated (vector_at l.vectors) (length l.vectors) (contains l.set) (λ _. false)
      (below (contains l.set) l.k) l.rows.items;
  within : IsWithin (contains l.base) (contains l.set);
  few : vec_len l.rows ≤ l.k;
  room : length l.vectors ≤ vec_capacity l.rows;
}
