-- THE LOG OF A RECORDED SESSION: each entry heard is followed by the one text due to it, and the
-- session is then the one after it. It is asked neither how the session is kept nor what keeps it.
use Rattle.std.specs.Prelude.{◌≡◌, ◌⊎◌, ℕ, ◌+◌, ◌<◌, ◌==◌, nat_lt, Bool, false, List, [], ◌∷◌, ◌++◌}
use Rattle.std.specs.Prelude.{length, take, Result, Ok, Err, codes, if◌then◌else◌, ⊤}
use Rattle.pg_sessions.specs.Prelude.{bytes_eq, Entry, Said, Heard, Skipped, Ended, judged_move}
use Rattle.pg_sessions.specs.Prelude.{Game, Illegal, Position, replay, Event, Play, Back}
use Rattle.pg_sessions.specs.Prelude.{MAX_EVENTS, MAX_REFUSALS, recorded_text, reply_text}
use Rattle.pg_sessions.specs.Prelude.{standing_text, ReplyFault}
use Rattle.pg_game.specs.declared.position.Illegal.TheVariants as illegal
use Rattle.pg_messages.specs.declared.message.ReplyFault.TheVariants as fault
use Rattle.pg_messages.specs.declared.statuses.TheConstants.{DONE, OUT_OF_REPLIES}
use Rattle.pg_sessions.specs.Course.{LeadsBy}
use Rattle.pg_sessions.specs.Request.{request_of}
use Rattle.pg_sessions.specs.declared.request.Request.{Request}
use Rattle.pg_sessions.specs.declared.request.Request.TheVariants as request

-- where the log of a session stands, after these events, and after so many refusals: a line is to
-- be heard; an event was heard, and the number of standing moves is to be said; a refusal is to be
-- said; the session has ended, and that is to be said; or it is over, with a status
pub data Stage : Type 0 where
  Listens : (events : List Event) (refusals : ℕ) → Stage
  Stands : (events : List Event) (refusals : ℕ) → Stage
  Refuses : (events : List Event) (refusals : ℕ) (why : ReplyFault) → Stage
  Closes : (events : List Event) → Stage
  Over : (events : List Event) (status : ℕ) → Stage

-- the events of a stage
abbrev pub events_at : Stage → List Event
events_at (Listens events refusals) = events
events_at (Stands events refusals) = events
events_at (Refuses events refusals why) = events
events_at (Closes events) = events
events_at (Over events status) = events

-- the log isn't at its end
abbrev pub IsOpen : Stage → Type 0
IsOpen (Listens events refusals) = ⊤
IsOpen (Stands events refusals) = ⊤
IsOpen (Refuses events refusals why) = ⊤
IsOpen (Closes events) = ⊤
IsOpen (Over events status) = ⊥

-- how many moves stand after these events
abbrev pub standing_count : Game → List Event → ℕ
standing_count g events = length (replay g events).moves

-- ---- what is due to a line

-- why a move isn't made, as it is said
abbrev pub reason_of : Illegal → ReplyFault
reason_of illegal.Range = fault.NoPoint
reason_of illegal.Over = fault.Over
reason_of illegal.Taken = fault.Taken

-- a move that was judged is an event, or this is why it is refused
abbrev pub move_or_refusal : ℕ → Result Position Illegal → Result Event ReplyFault
move_or_refusal v (Ok p) = Ok (Play v)
move_or_refusal v (Err why) = Err (reason_of why)

-- a move is taken back where one stands
abbrev pub back_or_refusal : ℕ → Result Event ReplyFault
back_or_refusal moves = if nat_lt 0 moves then Ok Back else Err fault.NothingToTakeBack

-- after a request that gives an event, and after one that is refused
abbrev pub after_answer : List Event → ℕ → Result Event ReplyFault → Stage
after_answer events refusals (Ok event) = Stands (events ++ event ∷ []) refusals
after_answer events refusals (Err why) = Refuses events refusals why

-- after a request
abbrev pub after_request : Game → List Event → ℕ → Request → Stage
after_request g events refusals request.End = Closes events
after_request g events refusals request.Back =
    after_answer events refusals (back_or_refusal (standing_count g events))
after_request g events refusals (request.Move v) =
    after_answer events refusals (move_or_refusal v (judged_move g (replay g events).position v))
after_request g events refusals request.Unclear = Refuses events refusals fault.NoNumber

-- after an event was told: where there is no room for a further one, the session has ended
abbrev pub after_event : List Event → ℕ → Stage
after_event events refusals =
    if nat_lt (length events) MAX_EVENTS then Listens events refusals else Closes events

-- after a refusal was told: the last one that is allowed ends the log
abbrev pub after_refusal : List Event → ℕ → Stage
after_refusal events refusals = if refusals + 1 == MAX_REFUSALS
    then Over events OUT_OF_REPLIES
    else Listens events (refusals + 1)

-- ---- the log

-- THE RULES: the entry that may come next, and where it leads. `end` and the end of the input end
-- the session
abbrev pub Steps : Game → Stage → Entry → Stage → Type 0
Steps g (Listens events refusals) (Heard line) next =
    next ≡ after_request g events refusals (request_of line)
Steps g (Listens events refusals) (Skipped line) next =
    next ≡ Refuses events refusals fault.NoNumber
Steps g (Listens events refusals) Ended next = next ≡ Closes events
Steps g (Stands events refusals) (Said text) next =
    (text ≡ standing_text (standing_count g events)) × (next ≡ after_event events refusals)
Steps g (Refuses events refusals why) (Said text) next =
    (text ≡ reply_text why) × (next ≡ after_refusal events refusals)
Steps g (Closes events) (Said text) next =
    (text ≡ recorded_text (standing_count g events)) × (next ≡ Over events DONE)
Steps g stage entry next = ⊥

-- the entries are the log of a session of the game, from the one without events, as far as this
-- stage
abbrev pub IsLogTo : Game → List Entry → Stage → Type 0
IsLogTo g entries stage = LeadsBy (Steps g) (Listens [] 0) entries stage

-- the entries are a whole log, of a session with these events, and it ends with the status
abbrev pub IsWholeLog : Game → List Entry → List Event → ℕ → Type 0
IsWholeLog g entries events status = IsLogTo g entries (Over events status)

-- the entries are a log that wants just its last text
abbrev pub IsClosingLog : Game → List Entry → List Event → Type 0
IsClosingLog g entries events = IsLogTo g entries (Closes events)

-- the entries are the beginning of a log that isn't at its end
abbrev pub IsOpenLog : Game → List Entry → Type 0
IsOpenLog g entries = (stage : Stage) × IsOpen stage × IsLogTo g entries stage

-- ---- refusals in a log

-- whether the entry refuses a line
abbrev pub is_refusal : Entry → Bool
is_refusal (Said text) = bytes_eq (take 8 text) (codes "refused:")
is_refusal (Heard line) = false
is_refusal (Skipped line) = false
is_refusal Ended = false

-- a log with so many refusals ends with this status: by as many as are allowed, or otherwise, with
-- fewer
abbrev pub EndsWith : ℕ → ℕ → Type 0
EndsWith refused status = ((status ≡ DONE) × (refused < MAX_REFUSALS))
    ⊎ ((status ≡ OUT_OF_REPLIES) × (refused ≡ MAX_REFUSALS))
