use Rattle.std.proofs.Common.{refl}
use Rattle.pg_sessions.proofs.Common.{err_from_is_err_and, reply_text}
use Rattle.pg_sessions.specs.SessionLog.{IsOpen, Refuses, Steps, after_refusal}
use Rattle.pg_sessions.proofs.Courses.{breaks_here, course_said}
use Rattle.pg_sessions.proofs.dialogue.refuse.Goals as goal

pub returns-in_err-say-clause-course : goal.returns-in_err-say-clause-course
returns-in_err-say-clause-course g c =
    let e = err_from_is_err_and c.from_residual.result c.from_residual.ensures.1 in
    λ game events refusals. rw e.1
    (breaks_here (Steps game) IsOpen _ _
    (Refuses events refusals c.args.fault) tt c.in_err-say.ensures.said)

pub returns-clause-course : goal.returns-clause-course
returns-clause-course g c = λ game events refusals. course_said (Steps game) _ _
    (reply_text c.args.fault) (Refuses events refusals c.args.fault)
    (after_refusal events refusals) c.in_ok-say.ensures.said c.in_ok-say.ensures.left (refl, refl)
