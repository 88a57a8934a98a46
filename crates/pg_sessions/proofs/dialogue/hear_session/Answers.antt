use Rattle.std.proofs.Common.{◌<◌, ◌∙◌, ◌+◌, ap, arith, length, subst, sym}
use Rattle.pg_sessions.proofs.Common.{err_from_is_err_and, Recorded, MAX_EVENTS, OUT_OF_REPLIES}
use Rattle.pg_sessions.specs.SessionLog.{Closes, Over, after_event}
use Rattle.pg_sessions.specs.Turns.{turned}
use Rattle.pg_sessions.proofs.Sessions.{event_goes_on, refusal_ends, refusal_goes_on, turn_breaks}
use Rattle.pg_sessions.proofs.Sessions.{turn_leads}
use Rattle.pg_sessions.proofs.dialogue.hear_session.Goals as goal

pub returns-in_err-take_turn-clause-course : goal.returns-in_err-take_turn-clause-course
returns-in_err-take_turn-clause-course g c =
    let e = err_from_is_err_and c.from_residual.result c.from_residual.ensures.1 in
    let now = c.loop-session.session in
    let so_far = c.loop-session.invariant in
    let room : length now.events < MAX_EVENTS =
    omega (arith, c.room.ensures, c.loop-session-test.true) in
    rw e.1
    (turn_breaks c.args.session.now.game now.game (g.C.Console.told c.args.console.now)
    (g.C.Console.told c.loop-session.console) (g.C.Console.told c.take_turn.new.console) now.events
    c.loop-session.refused so_far.1 room so_far.0
    (c.in_err-take_turn.ensures.course c.loop-session.refused))

pub loop-session-preserved-in-Changed : goal.loop-session-preserved-in-Changed
loop-session-preserved-in-Changed g c =
    let now = c.loop-session.session in
    let new = c.take_turn.new.session in
    let refused = c.loop-session.refused in
    let so_far = c.loop-session.invariant in
    let room : length now.events < MAX_EVENTS =
    omega (arith, c.room.ensures, c.loop-session-test.true) in
    let turns = rw c.in-Changed.is at c.in_ok-take_turn.ensures.turns in (
      turn_leads c.args.session.now.game now.game (g.C.Console.told c.args.console.now)
          (g.C.Console.told c.loop-session.console) (g.C.Console.told c.take_turn.new.console)
          now.events refused so_far.1 room so_far.0 new.events _ (after_event new.events refused)
          (ap (turned new.events refused) c.in-Changed.is)
          (c.in_ok-take_turn.ensures.course refused),
      turns.1 ∙ so_far.1,
      so_far.2,
      c.in_ok-take_turn.ensures.causes ∙ so_far.3,
    )

pub returns-then-refused-eq-MAX_REFUSALS-clause-course :
    goal.returns-then-refused-eq-MAX_REFUSALS-clause-course
returns-then-refused-eq-MAX_REFUSALS-clause-course g c =
    let now = c.loop-session.session in
    let new = c.take_turn.new.session in
    let refused = c.loop-session.refused in
    let so_far = c.loop-session.invariant in
    let room : length now.events < MAX_EVENTS =
    omega (arith, c.room.ensures, c.loop-session-test.true) in
    turn_leads c.args.session.now.game now.game (g.C.Console.told c.args.console.now)
    (g.C.Console.told c.loop-session.console) (g.C.Console.told c.take_turn.new.console) now.events
    refused so_far.1 room so_far.0 new.events _ (Over new.events OUT_OF_REPLIES)
    (ap (turned new.events refused) c.in-Refused.is
    ∙ refusal_ends new.events refused c.if-refused-eq-MAX_REFUSALS.true)
    (c.in_ok-take_turn.ensures.course refused)

pub loop-session-preserved : goal.loop-session-preserved
loop-session-preserved g c =
    let now = c.loop-session.session in
    let new = c.take_turn.new.session in
    let refused = c.loop-session.refused in
    let so_far = c.loop-session.invariant in
    let room : length now.events < MAX_EVENTS =
    omega (arith, c.room.ensures, c.loop-session-test.true) in
    let same = rw c.in-Refused.is at c.in_ok-take_turn.ensures.turns in
    let more = subst (λ (s : Recorded). length s.events < MAX_EVENTS) (sym same) room in (
      turn_leads c.args.session.now.game now.game (g.C.Console.told c.args.console.now)
          (g.C.Console.told c.loop-session.console) (g.C.Console.told c.take_turn.new.console)
          now.events refused so_far.1 room so_far.0 new.events _
          (after_event new.events (refused + 1))
          (ap (turned new.events refused) c.in-Refused.is
          ∙ (refusal_goes_on new.events refused c.if-refused-eq-MAX_REFUSALS.false
          ∙ sym (event_goes_on new.events (refused + 1) more)))
          (c.in_ok-take_turn.ensures.course refused),
      ap (λ (s : Recorded). s.game) same ∙ so_far.1,
      omega (arith, so_far.2, c.if-refused-eq-MAX_REFUSALS.false),
      c.in_ok-take_turn.ensures.causes ∙ so_far.3,
    )

pub returns-in-Ended-clause-course : goal.returns-in-Ended-clause-course
returns-in-Ended-clause-course g c =
    let now = c.loop-session.session in
    let new = c.take_turn.new.session in
    let refused = c.loop-session.refused in
    let so_far = c.loop-session.invariant in
    let room : length now.events < MAX_EVENTS =
    omega (arith, c.room.ensures, c.loop-session-test.true) in
    turn_leads c.args.session.now.game now.game (g.C.Console.told c.args.console.now)
    (g.C.Console.told c.loop-session.console) (g.C.Console.told c.take_turn.new.console) now.events
    refused so_far.1 room so_far.0 new.events _ (Closes new.events)
    (ap (turned new.events refused) c.in-Ended.is) (c.in_ok-take_turn.ensures.course refused)
