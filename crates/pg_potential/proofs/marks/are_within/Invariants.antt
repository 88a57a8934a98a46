use Rattle.std.proofs.Common.{◌≡◌, ℕ, ◌<◌, get_or}
use Rattle.pg_base.proofs.RowLemmas.{cleared}
use Rattle.pg_potential.proofs.marks.are_within.Given as goal

abbrev pub invariant-loop-i : goal.invariant-loop-i
invariant-loop-i l = (j : ℕ) → j < l.i → cleared (get_or l.mine j 0) (get_or l.theirs j 0) ≡ 0
