use Rattle.std.proofs.Common.{◌≡◌, false, slice_index}
use Rattle.pg_switch.specs.Span.{image}
use Rattle.pg_span.proofs.condition.stands_before.Given as goal

abbrev pub invariant-loop-k : goal.invariant-loop-k
invariant-loop-k l =
    image (slice_index l.fn.numbers) l.k (slice_index l.fn.numbers l.fn.place) ≡ false
