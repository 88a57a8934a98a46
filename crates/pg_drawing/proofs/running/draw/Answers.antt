use Rattle.std.proofs.Common.{map, string_bytes}
use Rattle.pg_io.specs.declared.stop.Stop.TheVariants.{Read, Write}
use Rattle.pg_drawing.specs.Orders.{order_of}
use Rattle.pg_drawing.specs.Runs.{statuses_of}
use Rattle.pg_drawing.proofs.Endings.{refusal_in, said_status, stopped_status, told_status}
use Rattle.pg_drawing.proofs.Endings.{writes_fail}
use Rattle.pg_drawing.proofs.running.draw.Goals as goal

pub returns-in-Ok-clause-statuses : goal.returns-in-Ok-clause-statuses
returns-in-Ok-clause-statuses g c =
    let order = order_of (map string_bytes c.args.words.now) in
    said_status c.as_str.result.now c.in-Ok.told.status c.end_with.result
    (g.C.Console.told c.args.console.now)
    (g.C.Console.told c.end_with.new.console) c.end_with.ensures (statuses_of order)
    (told_status order c.in-Ok.told c.in-Ok.ensures.gives) (writes_fail order)

pub returns-in-Err-Refused-clause-statuses : goal.returns-in-Err-Refused-clause-statuses
returns-in-Err-Refused-clause-statuses g c =
    let order = order_of (map string_bytes c.args.words.now) in
    said_status c.as_str-in-Err-Refused.result.now c.status.result c.end_with-in-Err-Refused.result
    (g.C.Console.told c.args.console.now) (g.C.Console.told c.end_with-in-Err-Refused.new.console)
    c.end_with-in-Err-Refused.ensures (statuses_of order)
    (rw c.status.ensures
    (refusal_in order c.in-Err-Refused.refusal
    (rw c.in-Err-Refused.field-0-is at c.in-Err-Refused.ensures.gives))) (writes_fail order)

pub returns-in-Err-Stopped-Read-clause-statuses : goal.returns-in-Err-Stopped-Read-clause-statuses
returns-in-Err-Stopped-Read-clause-statuses g c =
    stopped_status (order_of (map string_bytes c.args.words.now)) Read (rw (
      c.in-Err-Stopped-Read.field-0-is,
      c.in-Err-Stopped-Read.field-0-0-is,
    ) at c.in-Err-Stopped-Read.ensures.gives)

pub returns-in-Err-Stopped-Write-clause-statuses : goal.returns-in-Err-Stopped-Write-clause-statuses
returns-in-Err-Stopped-Write-clause-statuses g c =
    stopped_status (order_of (map string_bytes c.args.words.now)) Write (rw (
      c.in-Err-Stopped-Write.field-0-is,
      c.in-Err-Stopped-Write.field-0-0-is,
    ) at c.in-Err-Stopped-Write.ensures.gives)
