use Rattle.std.proofs.Common.{◌≡◌, ◌≤◌, slice_index}
use Rattle.pg_span.proofs.Common.{count, image}
use Rattle.pg_span.specs.declared.cert.TheConstants.{PART_NUMBERS}
use Rattle.pg_span.proofs.condition.different.Given as goal

abbrev pub invariant-loop-k : goal.invariant-loop-k
invariant-loop-k l =
    (l.different ≡ count (image (slice_index l.fn.numbers) l.k) PART_NUMBERS) × (l.different ≤ l.k)
