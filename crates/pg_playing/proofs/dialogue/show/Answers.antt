use Rattle.std.proofs.Common.{◌∙◌, arith, refl}
use Rattle.std.specs.Prelude.{string_bytes}
use Rattle.pg_playing.proofs.Common.{Memory, err_from_is_err_and}
use Rattle.pg_playing.specs.Dialogue.{Closes, Shows, Steps, after_answer}
use Rattle.pg_playing.proofs.Courses.{breaks_here, breaks_then}
use Rattle.pg_playing.proofs.Dialogues.{allows_then, says_then}
use Rattle.pg_playing.proofs.dialogue.show.Goals as goal

pub returns-in_err-telling-clause-course : goal.returns-in_err-telling-clause-course
returns-in_err-telling-clause-course g c =
    let p = err_from_is_err_and c.from_residual.result c.from_residual.ensures.1 in
    let rules = Steps (g.B.Bout.rules c.args.bout.now) in
    let here = g.B.Bout.at c.loop-telling.bout in
    λ heard. rw (p.1, p.2)
    (breaks_then rules _ _ _ (Shows (g.B.Bout.at c.args.bout.now) heard) (Shows here heard) Memory
    (c.loop-telling.invariant.course heard)
    (breaks_here rules _ _ (Shows here heard) Memory refl refl))

pub returns-in_err-say_text-clause-course : goal.returns-in_err-say_text-clause-course
returns-in_err-say_text-clause-course g c =
    let p = err_from_is_err_and c.from_residual-in_err-say_text.result
    c.from_residual-in_err-say_text.ensures.1 in
    let rules = Steps (g.B.Bout.rules c.args.bout.now) in
    let here = g.B.Bout.at c.loop-telling.bout in
    λ heard. rw (p.1, p.2)
    (breaks_then rules _ _ _ (Shows (g.B.Bout.at c.args.bout.now) heard) (Shows here heard) _
    (c.loop-telling.invariant.course heard)
    (breaks_here rules _ _ (Shows here heard) _
    c.in_err-say_text.ensures.said c.in_err-say_text.ensures.left))

pub returns-in-Line-clause-course : goal.returns-in-Line-clause-course
returns-in-Line-clause-course g c =
    let prints = rw c.in-Line.is at c.in_ok-telling.ensures.prints in
    λ heard. says_then (g.B.Bout.rules c.args.bout.now) (g.B.Bout.rules c.loop-telling.bout) _ _ _
    (g.B.Bout.at c.args.bout.now) (g.B.Bout.at c.loop-telling.bout) heard c.as_str.result.now
    (string_bytes c.in_ok-telling.telling.text) (after_answer (g.B.Bout.at c.tell.new.self) heard)
    c.loop-telling.invariant.allows (c.loop-telling.invariant.course heard)
    c.in_ok-say_text.ensures.said c.in_ok-say_text.ensures.left c.as_str.ensures.value
    (prints heard)

pub returns-in-End-clause-course : goal.returns-in-End-clause-course
returns-in-End-clause-course g c =
    let prints = rw c.in-End.is at c.in_ok-telling.ensures.prints in
    λ heard. says_then (g.B.Bout.rules c.args.bout.now) (g.B.Bout.rules c.loop-telling.bout) _ _ _
    (g.B.Bout.at c.args.bout.now) (g.B.Bout.at c.loop-telling.bout) heard c.as_str.result.now
    (string_bytes c.in_ok-telling.telling.text) (Closes (g.B.Bout.at c.tell.new.self))
    c.loop-telling.invariant.allows (c.loop-telling.invariant.course heard)
    c.in_ok-say_text.ensures.said c.in_ok-say_text.ensures.left c.as_str.ensures.value
    (prints heard)

pub loop-telling-preserved : goal.loop-telling-preserved
loop-telling-preserved g c =
    let prints = rw c.in-Text.is at c.in_ok-telling.ensures.prints in
    let after = rw c.in-Text.is at c.in_ok-telling.ensures.after in
    let so_far = c.loop-telling.invariant in
    record {
      course = λ heard. says_then (g.B.Bout.rules c.args.bout.now)
          (g.B.Bout.rules c.loop-telling.bout) _ _ _ (g.B.Bout.at c.args.bout.now)
          (g.B.Bout.at c.loop-telling.bout) heard c.as_str.result.now
          (string_bytes c.in_ok-telling.telling.text) (Shows (g.B.Bout.at c.tell.new.self) heard)
          so_far.allows (so_far.course heard) c.in_ok-say_text.ensures.said
          c.in_ok-say_text.ensures.left c.as_str.ensures.value (prints heard);
      moved = after;
      room = omega (arith, so_far.room, c.in_ok-telling.ensures.room);
      allows = allows_then _ _ _ so_far.allows c.in_ok-telling.ensures.allows;
      faults = c.in_ok-say_text.ensures.causes ∙ so_far.faults;
    }
