use Rattle.std.proofs.Common.{arith}
use Rattle.pg_cert_files.proofs.ShortTexts.{stands_less}
use Rattle.pg_cert_files.proofs.reader.LineReader.shorten.Goals as goal

pub returns-clause-short : goal.returns-clause-short
returns-clause-short c = grind (arith, stands_less)
