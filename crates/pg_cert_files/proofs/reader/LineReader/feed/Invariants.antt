use Rattle.std.proofs.Common.{◌+◌, ◌≤◌, length}
use Rattle.pg_cert_files.proofs.Stands.{HasFed}
use Rattle.pg_cert_files.proofs.reader.LineReader.feed.Given as goal

abbrev pub invariant-loop-line : goal.invariant-loop-line
invariant-loop-line l = record {
  fed : HasFed l.fn.self l.self l.piece l.rest;
  room : l.self.count + length l.rest ≤ l.fn.self.count + length l.piece;
}

abbrev pub decreases-loop-line : goal.decreases-loop-line
decreases-loop-line l = length l.rest
