use Rattle.std.proofs.Common.{[], Err, ap, refl, subst}
use Rattle.pg_sessions.proofs.Common.{err_from_is_err_and, Game, Stop, Memory, Recorded}
use Rattle.pg_sessions.proofs.Common.{stopped_first, OUT_OF_REPLIES}
use Rattle.pg_sessions.specs.Course.{BreaksOff, Course}
use Rattle.pg_sessions.specs.Recording.{RecordsGame}
use Rattle.pg_sessions.specs.SessionLog.{Closes, IsOpen, Listens, Over, Steps}
use Rattle.pg_sessions.proofs.Records.{records_broken, records_refused, records_stored}
use Rattle.pg_sessions.proofs.Records.{stored_gives}
use Rattle.pg_sessions.proofs.recording.record_game.Goals as goal

pub returns-in_err-session-clause-recorded : goal.returns-in_err-session-clause-recorded
returns-in_err-session-clause-recorded g c =
    let p = err_from_is_err_and c.from_residual.result c.from_residual.ensures.1 in
    rw (p.1, p.2)
    (stopped_first (RecordsGame c.args.game.now c.args.name.now) (g.F.Files.told c.args.files.now)
    (g.F.Files.told c.args.files.now) (g.C.Console.told c.args.console.now)
    (g.C.Console.told c.args.console.now) Memory refl refl refl)

pub returns-in_err-hear_session-clause-recorded : goal.returns-in_err-hear_session-clause-recorded
returns-in_err-hear_session-clause-recorded g c =
    let p = err_from_is_err_and c.from_residual-in_err-hear_session.result
    c.from_residual-in_err-hear_session.ensures.1 in
    let own = ap (λ (s : Recorded). s.game) c.in_ok-session.ensures in
    let stop = c.in_err-hear_session.field-0.0 in
    rw (p.1, p.2)
    (records_broken c.args.game.now c.args.name.now (g.F.Files.told c.args.files.now)
    (g.C.Console.told c.args.console.now) (g.C.Console.told c.hear_session.new.console) stop
    (λ same. c.in_err-hear_session.ensures.memory (ap (λ (s : Stop). Err s) same))
    (subst (λ (k : Game). BreaksOff (Steps k) IsOpen (g.C.Console.told c.args.console.now)
    (g.C.Console.told c.hear_session.new.console) (Listens [] 0)) own
    c.in_err-hear_session.ensures.course))

pub returns-in-Ended-clause-recorded : goal.returns-in-Ended-clause-recorded
returns-in-Ended-clause-recorded g c =
    let own = ap (λ (s : Recorded). s.game) c.in_ok-session.ensures in
    let events = c.hear_session.new.session.events in
    let ended = rw c.in-Ended.is at c.in_ok-hear_session.ensures.course in
    records_stored c.args.game.now c.args.name.now (g.F.Files.told c.args.files.now)
    (g.F.Files.told c.store_record.new.files) (g.C.Console.told c.args.console.now)
    (g.C.Console.told c.hear_session.new.console)
    (g.C.Console.told c.store_record.new.console) events
    (subst (λ (k : Game). Course (Steps k) (g.C.Console.told c.args.console.now)
    (g.C.Console.told c.hear_session.new.console) (Listens [] 0) (Closes events)) own ended)
    c.store_record.result c.store_record.ensures.delivered

pub returns-clause-recorded : goal.returns-clause-recorded
returns-clause-recorded g c =
    let own = ap (λ (s : Recorded). s.game) c.in_ok-session.ensures in
    let events = c.hear_session.new.session.events in
    let ended = rw c.in-OutOfReplies.is at c.in_ok-hear_session.ensures.course in
    records_refused c.args.game.now c.args.name.now (g.F.Files.told c.args.files.now)
    (g.C.Console.told c.args.console.now) (g.C.Console.told c.hear_session.new.console) events
    (subst (λ (k : Game). Course (Steps k) (g.C.Console.told c.args.console.now)
    (g.C.Console.told c.hear_session.new.console) (Listens [] 0) (Over events OUT_OF_REPLIES)) own
    ended)

pub returns-in-Ended-clause-gives : goal.returns-in-Ended-clause-gives
returns-in-Ended-clause-gives g c =
    stored_gives c.store_record.result c.store_record.ensures.done c.store_record.ensures.halts
