use Rattle.std.proofs.Common.{◌≡◌, ◌≤◌, ℕ, ◌<◌, get_or, length}
use Rattle.pg_base.proofs.RowLemmas.{cleared}
use Rattle.pg_base.proofs.point_set.PointSet.without.Given as goal

abbrev pub invariant-loop-row : goal.invariant-loop-row
invariant-loop-row l = record {
  long : length l.words ≡ 16;
  done : (i : ℕ)
      → i < l.row
      → get_or l.words i 0 ≡ cleared (get_or l.initial.words i 0) (get_or l.theirs i 0);
  left : (i : ℕ) → l.row ≤ i → get_or l.words i 0 ≡ get_or l.initial.words i 0;
}
