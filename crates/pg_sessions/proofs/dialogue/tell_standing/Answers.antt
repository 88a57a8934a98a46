use Rattle.std.proofs.Common.{ap, refl}
use Rattle.pg_sessions.proofs.Common.{err_from_is_err_and, standing_text}
use Rattle.pg_sessions.specs.SessionLog.{IsOpen, Stands, Steps, after_event}
use Rattle.pg_sessions.proofs.Courses.{breaks_here, course_said}
use Rattle.pg_sessions.proofs.dialogue.tell_standing.Goals as goal

pub returns-in_err-say-clause-course : goal.returns-in_err-say-clause-course
returns-in_err-say-clause-course g c =
    let e = err_from_is_err_and c.from_residual.result c.from_residual.ensures.1 in
    let session = c.args.session.now in
    λ refusals. rw e.1
    (breaks_here (Steps session.game) IsOpen _ _
    (Stands session.events refusals) tt c.in_err-say.ensures.said)

pub returns-clause-course : goal.returns-clause-course
returns-clause-course g c =
    let session = c.args.session.now in
    λ refusals. course_said (Steps session.game) _ _ (standing_text c.standing.result)
    (Stands session.events refusals) (after_event session.events refusals) c.in_ok-say.ensures.said
    c.in_ok-say.ensures.left (ap standing_text c.standing.ensures, refl)
