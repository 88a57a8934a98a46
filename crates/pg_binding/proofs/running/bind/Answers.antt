use Rattle.pg_io.specs.declared.stop.Stop.TheVariants.{Read, Write}
use Rattle.pg_drawing.proofs.Endings.{said_status}
use Rattle.pg_binding.specs.Runs.{book_statuses}
use Rattle.pg_binding.proofs.Statuses.{book_done, book_refused, book_stopped, book_writes_fail}
use Rattle.pg_binding.proofs.running.bind.Goals as goal

pub returns-in-Ok-clause-statuses : goal.returns-in-Ok-clause-statuses
returns-in-Ok-clause-statuses g c =
    said_status c.as_str.result.now c.in-Ok.told.status c.end_with.result
    (g.C.Console.told c.args.console.now)
    (g.C.Console.told c.end_with.new.console) c.end_with.ensures book_statuses
    (book_done c.in-Ok.told.status c.in-Ok.ensures.status) book_writes_fail

pub returns-in-Err-Refused-clause-statuses : goal.returns-in-Err-Refused-clause-statuses
returns-in-Err-Refused-clause-statuses g c =
    said_status c.as_str-in-Err-Refused.result.now c.status.result c.end_with-in-Err-Refused.result
    (g.C.Console.told c.args.console.now) (g.C.Console.told c.end_with-in-Err-Refused.new.console)
    c.end_with-in-Err-Refused.ensures book_statuses
    (rw c.status.ensures
    (book_refused c.in-Err-Refused.refusal
    (rw c.in-Err-Refused.field-0-is at c.in-Err-Refused.ensures.halts))) book_writes_fail

pub returns-in-Err-Stopped-Read-clause-statuses : goal.returns-in-Err-Stopped-Read-clause-statuses
returns-in-Err-Stopped-Read-clause-statuses g c = book_stopped Read

pub returns-in-Err-Stopped-Write-clause-statuses : goal.returns-in-Err-Stopped-Write-clause-statuses
returns-in-Err-Stopped-Write-clause-statuses g c = book_stopped Write
