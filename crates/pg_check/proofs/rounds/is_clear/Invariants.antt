use Rattle.std.proofs.Common.{ℕ, ◌<◌, get_or, []}
use Rattle.pg_check.specs.Rounds.{LacksLate}
use Rattle.pg_check.proofs.rounds.is_clear.Given as goal

abbrev pub invariant-loop-line : goal.invariant-loop-line
invariant-loop-line l =
    (j : ℕ) → j < l.line-index → LacksLate l.mine l.theirs l.times l.end (get_or l.line-items j [])
    → ⊥
