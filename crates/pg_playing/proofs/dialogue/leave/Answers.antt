use Rattle.std.proofs.Common.{refl}
use Rattle.std.specs.Prelude.{codes}
use Rattle.pg_playing.proofs.Common.{course_said, err_from_is_err_and}
use Rattle.pg_playing.specs.Dialogue.{Closes, Leaves, Steps}
use Rattle.pg_playing.proofs.Courses.{breaks_here}
use Rattle.pg_playing.proofs.dialogue.leave.Goals as goal

pub returns-in_err-say_text-clause-course : goal.returns-in_err-say_text-clause-course
returns-in_err-say_text-clause-course g c =
    let p = err_from_is_err_and c.from_residual.result c.from_residual.ensures.1 in
    λ heard. rw (p.1, p.2)
    (breaks_here (Steps (g.B.Bout.rules c.args.bout.now)) _ _
    (Leaves (g.B.Bout.at c.args.bout.now)) _
    c.in_err-say_text.ensures.said c.in_err-say_text.ensures.left)

pub returns-clause-course : goal.returns-clause-course
returns-clause-course g c =
    let here = g.B.Bout.at c.args.bout.now in
    λ heard. course_said (Steps (g.B.Bout.rules c.args.bout.now)) _ _ (codes "\n")
    (Leaves here) (Closes here) c.in_ok-say_text.ensures.said c.in_ok-say_text.ensures.left
    (refl, refl)
