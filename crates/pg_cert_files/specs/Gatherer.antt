-- The claims that code gathers, without where they lie in memory.
use Rattle.std.specs.Prelude.{◌≡◌, ◌≤◌, length}
use Rattle.pg_text.specs.Text.{Bytes}
use Rattle.pg_cert_files.specs.CertFile.{Gathered, gathered}
use Rattle.pg_cert_files.specs.Pieces.{IsFed, parts_told}
use Rattle.pg_cert_files.specs.Shortened.{AreAlike}
use Rattle.pg_cert_files.specs.declared.gathered_parts.Gatherer.{Gatherer}
use Rattle.pg_cert_files.specs.declared.cert_gathering.CertGathering.{CertGathering}

-- what was gathered
abbrev pub view : Gatherer → Gathered
view g = record { whole = g.claims.items; head = g.head; nodes = g.nodes.items }

-- this text has been fed, and its parts are gathered
pub record HasGathered (g : CertGathering) (text : Bytes) : Type 0 where
  pub fed : IsFed g.reader text
  pub parts : view g.gatherer ≡ gathered (parts_told text)

-- some text is the one that has been fed
pub record IsGathering (g : CertGathering) : Type 0 where
  pub text : Bytes
  pub gathered : HasGathered g text

-- It is as if a text had been fed that is like this one and no longer.
pub record HasGatheredShort (g : CertGathering) (text : Bytes) : Type 0 where
  pub short : Bytes
  pub gathered : HasGathered g short
  pub fewer : length short ≤ length text
  pub alike : AreAlike text short
