use Rattle.std.proofs.Common.{◌∙◌, ◌+◌, ◌<◌, Bool, Err, Ok, arith}
use Rattle.pg_playing.proofs.Common.{err_from_is_err_and}
use Rattle.pg_playing.specs.Dialogue.{Closes, Shows, after_shown}
use Rattle.pg_playing.specs.declared.dialogue.TheConstants.{MAX_HEARD}
use Rattle.pg_playing.proofs.Dialogues.{allows_then, line_goes}
use Rattle.pg_playing.proofs.dialogue.play_to_the_end.Goals as goal

pub returns-in_err-ended-clause-course : goal.returns-in_err-ended-clause-course
returns-in_err-ended-clause-course g c =
    let p = err_from_is_err_and c.from_residual.result c.from_residual.ensures.1 in
    rw (p.1, p.2) (c.in_err-ended.ensures.course 0)

pub loop-ended-init : goal.loop-ended-init
loop-ended-init g c = record {
  course = c.in_ok-ended.ensures.course 0;
  shown = c.in_ok-ended.ensures.shown;
  room = omega (arith, c.requires.room, c.in_ok-ended.ensures.room);
  few = omega arith;
  allows = c.in_ok-ended.ensures.allows;
  faults = c.in_ok-ended.ensures.causes;
}

pub returns-in_err-ended-2-clause-course : goal.returns-in_err-ended-2-clause-course
returns-in_err-ended-2-clause-course g c =
    let p = err_from_is_err_and c.from_residual-in_err-ended-2.result
    c.from_residual-in_err-ended-2.ensures.1 in
    let now = c.loop-ended.bout in
    let heard = c.loop-ended.heard in
    let so_far = c.loop-ended.invariant in
    let room : c.loop-ended.heard < MAX_HEARD = omega (arith, c.if-heard-lt-MAX_HEARD.true) in
    let first = g.B.Bout.at c.args.bout.now in
    rw (p.1, p.2)
    (line_goes {T = Bool} (g.B.Bout.rules c.args.bout.now) (g.B.Bout.rules now) _ _ _
    (Shows first 0)
    c.loop-ended.ended (g.B.Bout.at now) heard (Err c.in_err-ended-2.field-0.0)
    (λ _. Closes first) so_far.allows c.loop-ended-test.true room so_far.course
    (c.in_err-ended-2.ensures.course heard))

pub loop-ended-preserved : goal.loop-ended-preserved
loop-ended-preserved g c =
    let now = c.loop-ended.bout in
    let new = c.play_line.new.bout in
    let heard = c.loop-ended.heard in
    let so_far = c.loop-ended.invariant in
    let line = c.in_ok-ended-2.ensures in
    let room : c.loop-ended.heard < MAX_HEARD = omega (arith, c.if-heard-lt-MAX_HEARD.true) in
    record {
      course = line_goes (g.B.Bout.rules c.args.bout.now) (g.B.Bout.rules now) _ _ _
          (Shows (g.B.Bout.at c.args.bout.now) 0) c.loop-ended.ended (g.B.Bout.at now) heard
          (Ok c.in_ok-ended-2.ended) (λ ended. after_shown ended (g.B.Bout.at new) (heard + 1))
          so_far.allows c.loop-ended-test.true room so_far.course (line.course heard);
      shown = line.shown;
      room = omega (arith, so_far.room, line.room);
      few = omega (arith, room);
      allows = allows_then _ _ _ so_far.allows line.allows;
      faults = line.causes ∙ so_far.faults;
    }
