use Rattle.std.proofs.Common.{List, ◌∙◌, sym, ap}
use Rattle.pg_cert.specs.declared.part.Part.{Part}
use Rattle.pg_cert_files.specs.CertFile.{gathered}
use Rattle.pg_cert_files.proofs.WholeFile.{gathered_none}
use Rattle.pg_cert_files.proofs.cert_gathering.CertGathering.new.Goals as goal

pub returns : goal.returns
returns c = record {
  fed = c.new.ensures.fed;
  parts =
      c.new-2.ensures
      ∙ sym gathered_none
      ∙ ap (λ (ps : List Part). gathered ps) (sym c.new.ensures.parts);
}
