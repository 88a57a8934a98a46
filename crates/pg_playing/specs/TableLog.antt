-- THE LOG OF A GAME AT A TABLE: a dialogue over what two people claim and take back.
use Rattle.std.specs.Prelude.{◌≡◌, ℕ, nat_lt, Bool, true, false, if◌then◌else◌, List, [], ◌∷◌, ◌++◌}
use Rattle.std.specs.Prelude.{length, Option, Some, None, Result, Ok, Err, ⊤}
use Rattle.pg_playing.specs.Prelude.{Back, Bytes, Entry, Event, Game, Illegal, LeadsBy, Look, Play}
use Rattle.pg_playing.specs.Prelude.{Position, Score, is_over, judged_move, outcome, reason_of}
use Rattle.pg_playing.specs.Prelude.{replay}
use Rattle.pg_messages.specs.declared.message.ReplyFault.TheVariants as faults
use Rattle.pg_playing.specs.Dialogue.{Rules, Stage}
pub use Rattle.pg_playing.specs.Dialogue.{Closes, Leaves, Listens, Notes, Shows, Stalls}
use Rattle.pg_playing.specs.Dialogue.{Steps as StepsBy, after_shown}
use Rattle.pg_playing.specs.Screens.{answer_text, screen_text}
use Rattle.pg_playing.specs.declared.bout.Next.{Next}
use Rattle.pg_playing.specs.declared.bout.Next.TheVariants as nexts
use Rattle.pg_playing.specs.declared.bout.Turn.{Turn}
use Rattle.pg_playing.specs.declared.bout.Turn.TheVariants as turns
use Rattle.pg_playing.specs.declared.note.Note.TheVariants as notes

-- a stage of a log, with the events so far
abbrev pub TableStage : Type 0
TableStage = Stage (List Event)

-- the events of a stage
abbrev pub events_at : TableStage → List Event
events_at (Shows events heard) = events
events_at (Listens events heard) = events
events_at (Notes events heard note) = events
events_at (Leaves events) = events
events_at (Closes events) = events
events_at (Stalls events) = events

-- the position after these events
abbrev pub place : Game → List Event → Position
place g events = (replay g events).position

-- the outcome of a position, if the game is over there
abbrev pub ending_at : Game → Position → Option Score
ending_at g p = if is_over g p then Some (outcome g p) else None

-- the outcome, if the game is over after these events
abbrev pub ending_of : Game → List Event → Option Score
ending_of g events = ending_at g (place g events)

-- ---- what follows

-- after a point was judged
abbrev pub after_claim : List Event → ℕ → ℕ → Result Position Illegal → TableStage
after_claim events heard v (Ok p) = Shows (events ++ Play v ∷ []) heard
after_claim events heard v (Err why) = Notes events heard (notes.Refused (reason_of why))

-- a point is claimed if it may be; otherwise it is said why not
abbrev pub IsClaimed : Game → List Event → ℕ → ℕ → TableStage → Type 0
IsClaimed g events heard v next =
    next ≡ after_claim events heard v (judged_move g (place g events) v)

-- after `undo`: the last point that stands is taken back, if there is one
abbrev pub after_undo : Game → List Event → ℕ → TableStage
after_undo g events heard = if nat_lt 0 (length (replay g events).moves)
    then Shows (events ++ Back ∷ []) heard
    else Notes events heard (notes.Refused faults.NothingToTakeBack)

-- the board is shown, and the game has ended if it is over
abbrev pub IsShown : Look → Game → List Event → ℕ → Bytes → TableStage → Type 0
IsShown look g events heard text next =
    (text ≡ screen_text look g events (ending_of g events))
    × (next ≡ after_shown (is_over g (place g events)) events heard)

-- ---- the log

-- the board is printed after each point that is claimed or taken back
abbrev pub table_rules : Look → Game → Rules (List Event)
table_rules look g = record {
  game = g;
  answer = λ events note. answer_text g (place g events) note;
  Prints = IsShown look g;
  Claims = IsClaimed g;
  Undoes = λ events heard next. next ≡ after_undo g events heard;
  Holds = λ events. ⊤;
}

-- the rules of the log
abbrev pub Steps : Look → Game → TableStage → Entry → TableStage → Type 0
Steps look g = StepsBy (table_rules look g)

-- the entries are the log of a game at a table, from the game's position, as far as this stage
abbrev pub IsLogTo : Look → Game → List Entry → TableStage → Type 0
IsLogTo look g entries stage = LeadsBy (Steps look g) (Shows [] 0) entries stage

-- ---- what the code returns

-- what came of a point that was claimed, or not
abbrev pub claimed : {U : Type 0} → Result U Illegal → Turn
claimed (Ok _) = turns.Moved
claimed (Err why) = turns.Noted (notes.Refused (reason_of why))

-- what follows the board
abbrev pub next_by : Bool → Next
next_by true = nexts.End
next_by false = nexts.Line
