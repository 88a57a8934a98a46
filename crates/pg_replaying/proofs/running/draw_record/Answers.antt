use Rattle.pg_io.specs.declared.stop.Stop.TheVariants.{Read, Write}
use Rattle.pg_drawing.proofs.Endings.{said_status}
use Rattle.pg_replaying.proofs.Endings.{refusal_in, stopped_status, told_status, writes_fail}
use Rattle.pg_replaying.specs.Runs.{record_statuses}
use Rattle.pg_replaying.proofs.running.draw_record.Goals as goal

pub returns-in-Ok-clause-statuses : goal.returns-in-Ok-clause-statuses
returns-in-Ok-clause-statuses g c =
    said_status c.as_str.result.now c.in-Ok.told.status c.end_with.result
    (g.C.Console.told c.args.console.now)
    (g.C.Console.told c.end_with.new.console) c.end_with.ensures record_statuses
    (told_status c.in-Ok.told.status c.in-Ok.ensures.status) writes_fail

pub returns-in-Err-Refused-clause-statuses : goal.returns-in-Err-Refused-clause-statuses
returns-in-Err-Refused-clause-statuses g c =
    said_status c.as_str-in-Err-Refused.result.now c.status.result c.end_with-in-Err-Refused.result
    (g.C.Console.told c.args.console.now) (g.C.Console.told c.end_with-in-Err-Refused.new.console)
    c.end_with-in-Err-Refused.ensures record_statuses
    (rw c.status.ensures
    (refusal_in c.in-Err-Refused.refusal
    (rw c.in-Err-Refused.field-0-is at c.in-Err-Refused.ensures.halts))) writes_fail

pub returns-in-Err-Stopped-Read-clause-statuses : goal.returns-in-Err-Stopped-Read-clause-statuses
returns-in-Err-Stopped-Read-clause-statuses g c = stopped_status Read

pub returns-in-Err-Stopped-Write-clause-statuses : goal.returns-in-Err-Stopped-Write-clause-statuses
returns-in-Err-Stopped-Write-clause-statuses g c = stopped_status Write
