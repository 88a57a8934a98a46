use Rattle.std.proofs.Common.{◌∙◌, ◌+◌, refl, subst, take}
use Rattle.pg_playing.proofs.Common.{Ended, Heard, Reply, Skipped, course_heard}
use Rattle.pg_playing.proofs.Common.{read_reply}
use Rattle.pg_messages.specs.declared.message.ReplyFault.TheVariants.{NoNumber}
use Rattle.pg_playing.specs.Dialogue.{Follows, Leaves, Listens, Notes, Steps}
use Rattle.pg_playing.specs.declared.note.Note.TheVariants.{Refused}
use Rattle.pg_playing.proofs.Courses.{breaks_read, goes_from, goes_then}
use Rattle.pg_playing.proofs.dialogue.play_line.Goals as goal

pub returns-in-Ok-Line-clause-course : goal.returns-in-Ok-Line-clause-course
returns-in-Ok-Line-clause-course g c =
    let rules = g.B.Bout.rules c.args.bout.now in
    let here = g.B.Bout.at c.args.bout.now in
    let heard = rw c.in-Ok-Line.field-0-is at c.in-Ok-Line.ensures.heard in
    let line = take c.in-Ok-Line.count c.hear.new.buf in
    let same = c.read_reply-reply.ensures
    ∙ (λ i. read_reply (c.game.ensures i).field (c.trimmed.ensures i)) in
    λ lines. goes_from (Steps rules) _ _ _ (Listens here lines)
    (Follows rules here (lines + 1) c.read_reply-reply.result) c.answer_line.result _
    (λ m leads. course_heard (Steps rules) _ _ _ heard.0 (Heard line) (Listens here lines) m
    c.hear.auto.buf heard.1.1 (λ text e. cc e) heard.2 heard.3
    (subst (λ (r : Reply). Follows rules here (lines + 1) r m) same leads))
    (c.answer_line.ensures.course (lines + 1))

pub returns-in-Ok-Long-clause-course : goal.returns-in-Ok-Long-clause-course
returns-in-Ok-Long-clause-course g c =
    let rules = Steps (g.B.Bout.rules c.args.bout.now) in
    let here = g.B.Bout.at c.args.bout.now in
    let heard = rw c.in-Ok-Long.field-0-is at c.in-Ok-Long.ensures.heard in
    λ lines. goes_then rules _ _ _ (Listens here lines)
    (Notes here (lines + 1) (Refused NoNumber)) c.note.result _
    (course_heard rules _ _ _ heard.0 (Skipped heard.1.0) (Listens here lines)
    (Notes here (lines + 1) (Refused NoNumber)) c.hear.auto.buf heard.1.1
    (λ text e. cc e) heard.2 heard.3 refl) (c.note.ensures.course (lines + 1))

pub returns-in-Ok-End-clause-course : goal.returns-in-Ok-End-clause-course
returns-in-Ok-End-clause-course g c =
    let rules = Steps (g.B.Bout.rules c.args.bout.now) in
    let here = g.B.Bout.at c.args.bout.now in
    let heard = rw c.in-Ok-End.field-0-is at c.in-Ok-End.ensures.heard in
    λ lines. goes_then rules _ _ _ (Listens here lines) (Leaves here) c.leave.result _
    (course_heard rules _ _ _ heard.0 Ended (Listens here lines) (Leaves here)
    c.hear.auto.buf heard.1 (λ text e. cc e) heard.2 heard.3 refl)
    (c.leave.ensures.course (lines + 1))

pub returns-in-Err-clause-course : goal.returns-in-Err-clause-course
returns-in-Err-clause-course g c =
    λ lines. breaks_read (Steps (g.B.Bout.rules c.args.bout.now))
    (g.C.Console.told c.args.console.now) (g.C.Console.told c.hear.new.self)
    (Listens (g.B.Bout.at c.args.bout.now) lines) c.in-Err.ensures.heard
