-- What the code of a review says, one move after the other.
use Rattle.std.specs.Prelude.{◌≡◌, ℕ, if◌then◌else◌, List, [], ◌∷◌, map, Option, Result, Ok, Err}
use Rattle.pg_sessions.specs.Prelude.{Kind, Score, Side, Grows, Bytes, Entry, Said, Stop, lost_text}
use Rattle.pg_sessions.specs.Losses.{is_worse}

-- what is said of the move of this number, by the values before and after it: its loss, or nothing
abbrev pub move_texts : Kind → Side → ℕ → ℕ → Score → Score → List Bytes
move_texts kind mover number point before after =
    if is_worse mover before after then lost_text number point kind before after ∷ [] else []

-- all these texts were said, or a call has failed and none was
abbrev pub SaysAtOnce : List Bytes
    → Option (List Entry)
    → Option (List Entry)
    → Result (Unit {0}) Stop
    → Type 0
SaysAtOnce texts log after (Ok _) = Grows log after (map Said texts)
SaysAtOnce texts log after (Err _) = after ≡ log
