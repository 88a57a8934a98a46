use Rattle.pg_cert_files.proofs.Stands.{stands_new}
use Rattle.pg_cert_files.proofs.reader.LineReader.new.Goals as goal

pub returns-clause-stands : goal.returns-clause-stands
returns-clause-stands c = rw c.new-2.ensures (stands_new c.new.result c.new.ensures.items)
