-- The numbers by which flaws of claims are named.
use Rattle.std.specs.Prelude.{ℕ}
use Rattle.pg_span.specs.declared.flaw.SpanFlaw.{SpanFlaw}
use Rattle.pg_span.specs.declared.flaw.SpanFlaw.TheVariants.{Side, Trees, Parts}

abbrev pub flaw_number : SpanFlaw → ℕ
flaw_number Side = 1
flaw_number Trees = 2
flaw_number Parts = 3
