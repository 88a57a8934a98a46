use Rattle.std.proofs.Common.{ℕ, sym, ap, Some}
use Rattle.pg_cert_files.proofs.Stands.{ends_ok, ends_err, ends_past, some_is, none_is}
use Rattle.pg_cert_files.proofs.reader.LineReader.end_line.Goals as goal

pub returns-then-is_some-clause-stands : goal.returns-then-is_some-clause-stands
returns-then-is_some-clause-stands c = λ text stands.
    let some = some_is c.args.self.now.fault (sym c.if-is_some.ensures) in
    ends_past c.args.self.now some.0 text c.args.last.now c.requires.line stands some.1

pub returns-in-Ok-clause-stands : goal.returns-in-Ok-clause-stands
returns-in-Ok-clause-stands c = λ text stands. ends_ok c.args.self.now c.read_line.new.self
    c.in-Ok.part text c.args.last.now c.requires.line stands
    (none_is c.args.self.now.fault (sym c.if-is_some.ensures)) c.in-Ok.ensures.steps
    c.read_line.ensures.count c.read_line.ensures.fault c.in-Ok.ensures.pending

pub returns-in-Err-Fault-clause-stands : goal.returns-in-Err-Fault-clause-stands
returns-in-Err-Fault-clause-stands c =
    λ text stands. ends_err c.args.self.now (record c.read_line.new.self {
      fault = Some (c.in-Err-Fault.fault, c.read_line.new.self.count);
    }) c.in-Err-Fault.fault text c.args.last.now c.requires.line stands
    (none_is c.args.self.now.fault (sym c.if-is_some.ensures))
    (rw c.in-Err-Fault.field-0-is at c.in-Err-Fault.ensures.steps) c.read_line.ensures.count
    (ap (λ (k : ℕ). Some (c.in-Err-Fault.fault, k)) c.read_line.ensures.count)
