use Rattle.std.proofs.Common.{◌++◌, length}
use Rattle.pg_text.specs.Text.{Bytes}
use Rattle.pg_cert_files.specs.Gatherer.{HasGathered}
use Rattle.pg_cert_files.proofs.ReadsWhole.{HasRead}
use Rattle.pg_cert_files.proofs.cert_gathering.CertGathering.take.Given as goal

abbrev pub invariant-loop-rest : goal.invariant-loop-rest
invariant-loop-rest l = (text : Bytes) → HasGathered l.fn.self text
    → HasRead l.self.reader l.self.gatherer (text ++ l.piece) l.rest

abbrev pub decreases-loop-rest : goal.decreases-loop-rest
decreases-loop-rest l = length l.rest
