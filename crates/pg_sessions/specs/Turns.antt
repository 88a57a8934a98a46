-- What the code does line by line.
use Rattle.std.specs.Prelude.{◌≡◌, ℕ, ◌+◌, List, length, Result, Ok, Err, ⊤}
use Rattle.pg_sessions.specs.Prelude.{Stop, Recorded, Event, OUT_OF_REPLIES}
use Rattle.pg_sessions.specs.SessionLog.{Stage, Closes, Over, after_event, after_refusal}
use Rattle.pg_sessions.specs.declared.dialogue.Close.{Close}
use Rattle.pg_sessions.specs.declared.dialogue.Close.TheVariants as close
use Rattle.pg_sessions.specs.declared.dialogue.Turn.{Turn}
use Rattle.pg_sessions.specs.declared.dialogue.Turn.TheVariants as turns

-- where a line leads that leaves these events
abbrev pub turned : List Event → ℕ → Turn → Stage
turned events refusals turns.Changed = after_event events refusals
turned events refusals turns.Refused = after_refusal events refusals
turned events refusals turns.Ended = Closes events

-- where a session leads that ends with these events
abbrev pub closed : List Event → Close → Stage
closed events close.Ended = Closes events
closed events close.OutOfReplies = Over events OUT_OF_REPLIES

-- a line that changes the session adds one event; any other changes nothing
abbrev pub Turns : Recorded → Recorded → Result Turn Stop → Type 0
Turns old new (Ok turns.Changed) =
    (length new.events ≡ length old.events + 1) × (new.game ≡ old.game)
Turns old new (Ok turns.Refused) = new ≡ old
Turns old new (Ok turns.Ended) = new ≡ old
Turns old new (Err stop) = ⊤
