-- THE LOG OF A GAME AGAINST THE PROGRAM: which entry may come next and where it leads. It is asked
-- neither how the game is kept nor what keeps it. Its stages are those of a game between two people
-- (pg_playing).
use Rattle.std.specs.Prelude.{◌≡◌, ◌⊎◌, ℕ, Bool, true, false, not, ◌&&◌, List, [], ◌∷◌, ◌++◌}
use Rattle.std.specs.Prelude.{take, Option, Some, None}
use Rattle.pg_computer.specs.Prelude.{Budget, Bytes, Entry, Event, Game, IsClaimed, IsShown, Look}
use Rattle.pg_computer.specs.Prelude.{Notes, Outcome, Play, Rules, Side, StepsBy, TableStage}
use Rattle.pg_computer.specs.Prelude.{answer_text, is_over, is_same_side, place}
pub use Rattle.pg_computer.specs.Prelude.{Closes, Shows}
use Rattle.pg_messages.specs.declared.message.ReplyFault.TheVariants as faults
use Rattle.pg_playing.specs.declared.note.Note.TheVariants as notes
use Rattle.pg_computer.specs.Choices.{Chooses}
use Rattle.pg_computer.specs.Points.{ArePoints, IsLast}
use Rattle.pg_computer.specs.Words.{taken_text}
use Rattle.pg_computer.specs.declared.choice.Choice.{Choice}

-- whether the game goes on after these events and it is the turn of the program, which plays the
-- side
abbrev pub is_own : Side → Game → List Event → Bool
is_own side g events =
    not (is_over g (place g events)) && is_same_side (place g events).turn side

-- ---- what follows

-- after `undo`: the points before the person's last one stand, if there is one
abbrev pub after_undo : List Event → ℕ → Option ℕ → TableStage
after_undo events heard None = Notes events heard (notes.Refused faults.NothingToTakeBack)
after_undo events heard (Some last) = Shows (take last events) heard

abbrev pub Undoes : Side → Game → List Event → ℕ → TableStage → Type 0
Undoes side g events heard next =
    (last : Option ℕ) × IsLast side g events last × (next ≡ after_undo events heard last)

-- on its turn the program claims a point, and says whether it is proved to keep the value
abbrev pub Takes : (Game → Budget → Outcome → Type 0)
    → Budget
    → Side
    → Game
    → List Event
    → ℕ
    → Bytes
    → TableStage
    → Type 0
Takes Brings budget side g events heard text next = (c : Choice) × (is_own side g events ≡ true)
    × Chooses Brings budget g (place g events) c
    × (text ≡ taken_text g c)
    × (next ≡ Shows (events ++ Play c.point ∷ []) heard)

-- otherwise the board is shown
abbrev pub Prints : (Game → Budget → Outcome → Type 0)
    → Budget
    → Look
    → Side
    → Game
    → List Event
    → ℕ
    → Bytes
    → TableStage
    → Type 0
Prints Brings budget look side g events heard text next =
    Takes Brings budget side g events heard text next
    ⊎ ((is_own side g events ≡ false) × IsShown look g events heard text next)

-- ---- the log

-- `undo` and what is printed apart, as between two people
abbrev pub versus_rules : (Game → Budget → Outcome → Type 0)
    → Budget
    → Look
    → Side
    → Game
    → Rules (List Event)
versus_rules Brings budget look side g = record {
  game = g;
  answer = λ events note. answer_text g (place g events) note;
  Prints = Prints Brings budget look side g;
  Claims = IsClaimed g;
  Undoes = Undoes side g;
  Holds = ArePoints g;
}

-- THE RULES
abbrev pub Steps : (Game → Budget → Outcome → Type 0)
    → Budget
    → Look
    → Side
    → Game
    → TableStage
    → Entry
    → TableStage
    → Type 0
Steps Brings budget look side g = StepsBy (versus_rules Brings budget look side g)
