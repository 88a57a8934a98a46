use Rattle.std.proofs.Common.{◌≡◌, ◌<◌, ◌≤◌, ℕ, length, true}
use Rattle.pg_gf2.proofs.Common.{contains, vec_capacity, minus}
use Rattle.pg_gf2.specs.Vectors.{vector_spans}
use Rattle.pg_gf2.proofs.room.lowest_parting.Given as goal

abbrev pub invariant-loop-d : goal.invariant-loop-d
invariant-loop-d l = (length l.vectors ≤ vec_capacity l.rows)
    × ((f : ℕ) → f < l.d
    → contains l.candidates f ≡ true
    → vector_spans l.vectors (minus (contains l.set) f) l.x ≡ true)
