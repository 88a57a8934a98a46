use Rattle.std.proofs.Common.{◌≡◌, ◌<◌, ◌+◌, ◌-◌, [], length}
use Rattle.pg_sessions.proofs.Common.{MAX_EVENTS, MAX_REFUSALS}
use Rattle.pg_sessions.specs.Course.{Course}
use Rattle.pg_sessions.specs.SessionLog.{Listens, Steps, after_event}
use Rattle.pg_sessions.proofs.dialogue.hear_session.Given as goal

-- so far: a log without a failed call, of the same game, with fewer refusals than end it
abbrev pub invariant-loop-session : goal.invariant-loop-session
invariant-loop-session g l = Course (Steps l.fn.session.game) (g.C.Console.told l.fn.console)
    (g.C.Console.told l.console) (Listens [] 0) (after_event l.session.events l.refused)
    × (l.session.game ≡ l.fn.session.game)
    × (l.refused < MAX_REFUSALS)
    × ((g.C.Console.told l.console).faults ≡ (g.C.Console.told l.fn.console).faults)

-- a line takes room for an event, or is one refusal more
abbrev pub decreases-loop-session : goal.decreases-loop-session
decreases-loop-session g l = (MAX_EVENTS - length l.session.events) + (MAX_REFUSALS - l.refused)
