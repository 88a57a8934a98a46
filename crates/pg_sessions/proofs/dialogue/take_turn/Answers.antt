use Rattle.std.proofs.Common.{ap, refl, sym, take}
use Rattle.pg_sessions.proofs.Common.{Heard, Skipped, Ended, NoNumber}
use Rattle.pg_sessions.specs.Request.{request_of}
use Rattle.pg_sessions.specs.SessionLog.{Closes, IsOpen, Listens, Refuses, Steps, after_request}
use Rattle.pg_sessions.specs.declared.request.Request.{Request}
use Rattle.pg_sessions.proofs.Courses.{breaks_here, course_heard, goes_then}
use Rattle.pg_sessions.proofs.Sessions.{goes_from}
use Rattle.pg_sessions.proofs.dialogue.take_turn.Goals as goal

pub returns-in-Ok-Line-clause-course : goal.returns-in-Ok-Line-clause-course
returns-in-Ok-Line-clause-course g c =
    let old = c.args.session.now in
    let heard = rw c.in-Ok-Line.field-0-is at c.in-Ok-Line.ensures.heard in
    let line = take c.in-Ok-Line.count c.hear.new.buf in
    λ refusals. goes_then (Steps old.game) IsOpen _ _ _ (Listens old.events refusals)
    (after_request old.game old.events refusals (request_of line)) c.answer.result _
    (course_heard (Steps old.game) _ _ _ heard.0 (Heard line) (Listens old.events refusals)
    (after_request old.game old.events refusals (request_of line)) c.hear.auto.buf heard.1.1
    (λ text e. cc e) heard.2 heard.3 refl)
    (goes_from _ _ c.answer.result _ old.game old.game
    (after_request old.game old.events refusals c.request_of.result)
    (after_request old.game old.events refusals (request_of line)) refl
    (ap (λ (asked : Request). after_request old.game old.events refusals asked)
    (sym c.request_of.ensures)) (c.answer.ensures.course refusals))

pub returns-in-Ok-Long-clause-course : goal.returns-in-Ok-Long-clause-course
returns-in-Ok-Long-clause-course g c =
    let old = c.args.session.now in
    let heard = rw c.in-Ok-Long.field-0-is at c.in-Ok-Long.ensures.heard in
    λ refusals. goes_then (Steps old.game) IsOpen _ _ _ (Listens old.events refusals)
    (Refuses old.events refusals NoNumber) c.refuse.result _
    (course_heard (Steps old.game) _ _ _ heard.0 (Skipped heard.1.0) (Listens old.events refusals)
    (Refuses old.events refusals NoNumber) c.hear.auto.buf heard.1.1
    (λ text e. cc e) heard.2 heard.3 refl) (c.refuse.ensures.course old.game old.events refusals)

pub returns-in-Ok-End-clause-course : goal.returns-in-Ok-End-clause-course
returns-in-Ok-End-clause-course g c =
    let old = c.args.session.now in
    let heard = rw c.in-Ok-End.field-0-is at c.in-Ok-End.ensures.heard in
    λ refusals. course_heard (Steps old.game) _ _ _ heard.0 Ended (Listens old.events refusals)
    (Closes old.events) c.hear.auto.buf heard.1 (λ text e. cc e) heard.2 heard.3 refl

pub returns-in-Err-clause-course : goal.returns-in-Err-clause-course
returns-in-Err-clause-course g c =
    let old = c.args.session.now in
    λ refusals. breaks_here (Steps old.game) IsOpen _ _
    (Listens old.events refusals) tt c.in-Err.ensures.heard
