-- Record files: what each line says, and the first fault.
use Rattle.std.specs.Prelude.{ℕ, ◌==◌, Bool, nat_lt, nat_le, is_err, if◌then◌else◌, List, [], ◌∷◌}
use Rattle.std.specs.Prelude.{◌++◌, length, Option, Some, None, Result, Ok, Err, codes}
use Rattle.pg_record.specs.Prelude.{bytes_eq, SPACE, and_then, least, reading, unless, Bytes, lines}
use Rattle.pg_record.specs.Prelude.{number, parts, Game, judged_move}
use Rattle.pg_record.specs.declared.event.Event.{Event}
use Rattle.pg_record.specs.declared.event.Event.TheVariants.{Play, Back}
use Rattle.pg_record.specs.declared.event.TheConstants.{MAX_EVENTS}
use Rattle.pg_record.specs.Replay.{replay}
use Rattle.pg_record.specs.declared.fault.Fault.{Fault}
use Rattle.pg_record.specs.declared.fault.Fault.TheVariants as faults
use Rattle.pg_record.specs.declared.fault.TheConstants.{MAX_RECORD_BYTES}

-- ---- what a line says

-- the move that a word names
abbrev pub move_of : Option ℕ → Result Event Fault
move_of None = Err faults.Number
move_of (Some v) = Ok (Play v)

-- what the words of a line say: `move` and one word, or `back`
abbrev pub event_from : List Bytes → Result Event Fault
event_from [] = Err faults.Form
event_from (name ∷ []) = if bytes_eq name (codes "back") then Ok Back else Err faults.Form
event_from (name ∷ word ∷ []) =
    if bytes_eq name (codes "move") then move_of (number word) else Err faults.Form
event_from (name ∷ word ∷ other ∷ others) = Err faults.Form

-- the event that a line says: words stand behind single spaces, and may be empty
unfoldable pub event_of : Bytes → Result Event Fault
event_of line = event_from (parts SPACE line)

-- ---- the first fault

-- there are as many events as there may be
abbrev pub is_full : List Event → Bool
is_full events = nat_le MAX_EVENTS (length events)

-- the faults that an event can have behind others, in ascending order, each with whether it applies
abbrev pub event_faults : Game → List Event → Event → List (Fault × Bool)
event_faults g events (Play v) = (faults.Move, is_err (judged_move g (replay g events).position v))
    ∷ (faults.Limit, is_full events) ∷ []
event_faults g events Back =
    (faults.Nothing, length (replay g events).moves == 0) ∷ (faults.Limit, is_full events) ∷ []

-- the events with one more, or its fault
abbrev pub with_one : Game → List Event → Event → Result (List Event) Fault
with_one g events e = unless (least (event_faults g events e)) (events ++ e ∷ [])

-- the events with those of one line more, or its fault
unfoldable pub after : Game → List Event → Bytes → Result (List Event) Fault
after g events line = and_then (event_of line) (with_one g events)

-- what the lines say: the first line stands apart, and of the others the first faulty one decides
abbrev pub said : Game → List Bytes → Result (List Event) (Fault × ℕ)
said g [] = Err (faults.Header, 1)
said g (first ∷ others) = if bytes_eq first (codes "posgame-record 1")
    then reading (after g) 2 [] others
    else Err (faults.Header, 1)

-- the events that a file tells of a game, or its first fault with the number of the line
unfoldable pub record_of : Game → Bytes → Result (List Event) (Fault × ℕ)
record_of g text =
    if nat_lt MAX_RECORD_BYTES (length text) then Err (faults.Size, 0) else said g (lines text)
