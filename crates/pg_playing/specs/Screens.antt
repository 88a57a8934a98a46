-- What is printed at a table.
use Rattle.std.specs.Prelude.{ℕ, ◌-◌, ◌==◌, ◌++◌, if◌then◌else◌, List, length, get_or, codes}
use Rattle.std.specs.Prelude.{Option, Some, None}
use Rattle.pg_playing.specs.Prelude.{Bytes, Game, Position, Score, Event, replay, standing, Look}
use Rattle.pg_playing.specs.Prelude.{Shown, board_text, goals_text, result_text, turn_text}
use Rattle.pg_playing.specs.Notes.{note_text}
use Rattle.pg_playing.specs.declared.note.Note.{Note}

-- the last of these points
abbrev pub last_of : List ℕ → Option ℕ
last_of moves =
    if length moves == 0 then None else Some (get_or moves (length moves - 1) 0)

-- what is shown after these events
abbrev pub shown_of : Look → Game → List Event → Shown
shown_of look g events = record {
  position = (replay g events).position;
  last = last_of (standing events);
  look = look;
}

-- who has won, or whose turn it is
abbrev pub ending_text : Position → Option Score → Bytes
ending_text p (Some score) = result_text score
ending_text p None = turn_text p

-- the text that shows a position: what the sides want, the board, and who has won or whose turn it
-- is
unfoldable pub shown_text : Game → Shown → Option Score → Bytes
shown_text g shown ending =
    codes "\n" ++ (goals_text g ++ (board_text g shown ++ ending_text shown.position ending))

-- the text that shows the position after these events
abbrev pub screen_text : Look → Game → List Event → Option Score → Bytes
screen_text look g events ending = shown_text g (shown_of look g events) ending

-- an answer to a line that changes nothing, and whose turn it is
abbrev pub answer_text : Game → Position → Note → Bytes
answer_text g p note = note_text g p note ++ turn_text p
