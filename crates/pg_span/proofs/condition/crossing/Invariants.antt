use Rattle.std.proofs.Common.{◌≡◌, ℕ, ◌≤◌, ◌&&◌, slice_index}
use Rattle.pg_span.proofs.Common.{contains, count, first_end_of, second_end_of, crosses}
use Rattle.pg_span.proofs.condition.crossing.Given as goal

abbrev pub invariant-loop-k : goal.invariant-loop-k
invariant-loop-k l =
    (l.crossing ≡ count (λ (f : ℕ). contains l.fn.set f
    && crosses (first_end_of l.fn.g.graph) (second_end_of l.fn.g.graph)
    (slice_index l.fn.numbers) f) l.k)
    × (l.crossing ≤ l.k)
