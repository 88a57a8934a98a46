use Rattle.std.proofs.Common.{◌≡◌, ℕ, ◌<◌, get_or}
use Rattle.pg_base.specs.WordLemmas.{with_bit}
use Rattle.pg_potential.proofs.marks.are_same_with.Given as goal

abbrev pub invariant-loop-i : goal.invariant-loop-i
invariant-loop-i l = (j : ℕ) → j < l.i → get_or l.mine j 0 ≡ get_or (with_bit l.theirs l.v) j 0
