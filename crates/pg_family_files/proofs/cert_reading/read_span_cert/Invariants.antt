use Rattle.std.proofs.Common.{◌≡◌, ◌+◌, length}
use Rattle.pg_family_files.proofs.Common.{lines, reading}
use Rattle.pg_family_files.specs.SpanCertFile.{nothing, after}
use Rattle.pg_family_files.specs.SpanCertViews.{view}
use Rattle.pg_family_files.proofs.cert_reading.read_span_cert.Given as goal

abbrev pub invariant-loop-line : goal.invariant-loop-line
invariant-loop-line l = record {
  so_far : reading after l.number (view l.draft) l.line-iterator
      ≡ reading after 1 nothing (lines l.bytes);
  count : l.number + length l.line-iterator ≡ length (lines l.bytes) + 1;
}
