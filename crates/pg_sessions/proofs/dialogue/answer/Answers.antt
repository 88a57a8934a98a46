use Rattle.std.proofs.Common.{◌≡◌, ◌≤◌, ◌∙◌, ap, arith, refl}
use Rattle.pg_sessions.proofs.Common.{point_count, point_count-le, NoNumber, NoPoint}
use Rattle.pg_sessions.specs.SessionLog.{Closes, Refuses, Steps, after_request}
use Rattle.pg_sessions.specs.declared.request.Request.{Request}
use Rattle.pg_sessions.specs.declared.request.Request.TheVariants.{Back, Move}
use Rattle.pg_sessions.proofs.Courses.{course_nothing}
use Rattle.pg_sessions.proofs.Sessions.{beyond_stage, goes_from}
use Rattle.pg_sessions.proofs.dialogue.answer.Goals as goal

pub returns-in-End-clause-course : goal.returns-in-End-clause-course
returns-in-End-clause-course g c =
    let old = c.args.session.now in
    λ refusals. rw c.in-End.is (course_nothing (Steps old.game) _ _ (Closes old.events) refl refl)

pub returns-in-Back-clause-course : goal.returns-in-Back-clause-course
returns-in-Back-clause-course g c =
    let old = c.args.session.now in
    λ refusals. goes_from _ _ c.take_back.result _ old.game old.game
    (after_request old.game old.events refusals Back)
    (after_request old.game old.events refusals c.args.request) refl
    (ap (λ (asked : Request). after_request old.game old.events refusals asked) c.in-Back.is)
    (c.take_back.ensures.course refusals)

pub returns-in-Ok-clause-course : goal.returns-in-Ok-clause-course
returns-in-Ok-clause-course g c =
    let old = c.args.session.now in
    let number : c.in-Move.number ≡ c.in-Ok.v = omega (arith, c.in-Ok.ensures) in
    λ refusals. goes_from _ _ c.make_move.result _ old.game old.game
    (after_request old.game old.events refusals (Move c.in-Ok.v))
    (after_request old.game old.events refusals c.args.request) refl
    (ap (λ (asked : Request). after_request old.game old.events refusals asked)
    (c.in-Move.is ∙ ap Move number)) (c.make_move.ensures.course refusals)

pub returns-in-Err-clause-course : goal.returns-in-Err-clause-course
returns-in-Err-clause-course g c =
    let old = c.args.session.now in
    let great : point_count old.game ≤ c.in-Move.number =
    omega (arith, point_count-le old.game, c.in-Err.ensures) in
    λ refusals. goes_from _ _ c.refuse.result _ old.game old.game
    (Refuses old.events refusals NoPoint)
    (after_request old.game old.events refusals c.args.request) refl
    (ap (λ (asked : Request). after_request old.game old.events refusals asked) c.in-Move.is
    ∙ beyond_stage old.game old.events refusals c.in-Move.number great)
    (c.refuse.ensures.course old.game old.events refusals)

pub returns-in-Unclear-clause-course : goal.returns-in-Unclear-clause-course
returns-in-Unclear-clause-course g c =
    let old = c.args.session.now in
    λ refusals. goes_from _ _ c.refuse-in-Unclear.result _ old.game old.game
    (Refuses old.events refusals NoNumber)
    (after_request old.game old.events refusals c.args.request) refl
    (ap (λ (asked : Request). after_request old.game old.events refusals asked) c.in-Unclear.is)
    (c.refuse-in-Unclear.ensures.course old.game old.events refusals)
