use Rattle.std.proofs.Common.{◌≡◌, ℕ, ◌<◌, false, ◌&&◌}
use Rattle.std.specs.Prelude.{slice_index}
use Rattle.pg_span.proofs.Common.{first_end_of, second_end_of, is_free, crosses}
use Rattle.pg_span.proofs.answers.parts_edge.Given as goal

abbrev pub invariant-loop-v : goal.invariant-loop-v
invariant-loop-v l = (q : ℕ) → q < l.v
    → (is_free l.p q
    && crosses (first_end_of l.graph) (second_end_of l.graph) (slice_index l.numbers) q) ≡ false
