use Rattle.pg_cert_files.proofs.Stands.{adds, if_none, if_some}
use Rattle.pg_cert_files.proofs.reader.LineReader.keep.Goals as goal

pub returns-in_ok-extend_from_slice-clause-stands :
    goal.returns-in_ok-extend_from_slice-clause-stands
returns-in_ok-extend_from_slice-clause-stands c =
    λ text stands. adds c.args.self.now c.extend_from_slice.new.self text c.args.bytes.now
    c.requires stands (if_none c.args.self.now.fault c.in_ok-extend_from_slice.ensures.items)

pub returns-else-is_none-clause-stands : goal.returns-else-is_none-clause-stands
returns-else-is_none-clause-stands c = λ text stands. adds c.args.self.now c.args.self.now.pending
    text c.args.bytes.now c.requires stands (if_some c.args.self.now.fault _ c.if-is_none.ensures)
