-- What was gathered of a text is what is gathered of one that is like it.
use Rattle.std.proofs.Common.{List, ◌∙◌, ap, sym}
use Rattle.pg_cert_files.proofs.Common.{Bytes, Part}
use Rattle.pg_cert_files.specs.CertFile.{gathered}
use Rattle.pg_cert_files.specs.Gatherer.{HasGathered, HasGatheredShort}
use Rattle.pg_cert_files.specs.Shortened.{IsFedShort}
use Rattle.pg_cert_files.specs.declared.cert_gathering.CertGathering.{CertGathering}
use Rattle.pg_cert_files.specs.declared.cert_state.CertReader.{CertReader}

pub gathered_short : (g : CertGathering) (reader : CertReader) (text : Bytes)
    → IsFedShort reader text
    → HasGathered g text
    → HasGatheredShort (record g { reader = reader }) text
gathered_short g reader text less h = record {
  short = less.short;
  gathered = record {
    fed = less.fed;
    parts = h.parts ∙ ap (λ (ps : List Part). gathered ps) (sym less.parts);
  };
  fewer = less.fewer;
  alike = less.alike;
}
