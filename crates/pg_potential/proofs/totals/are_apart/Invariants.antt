use Rattle.std.proofs.Common.{◌≡◌, ℕ, ◌<◌, bit_and, get_or}
use Rattle.pg_potential.proofs.totals.are_apart.Given as goal

abbrev pub invariant-loop-i : goal.invariant-loop-i
invariant-loop-i l = (j : ℕ) → j < l.i → bit_and (get_or l.mine j 0) (get_or l.theirs j 0) ≡ 0
