-- WHAT IS SAID, with its status.
use Rattle.std.specs.Prelude.{◌≡◌, ◌⊎◌, ℕ, ◌<◌, ◌≤◌, List, length, take, Option, Some, None, Result}
use Rattle.std.specs.Prelude.{Ok, Err}
use Rattle.pg_replaying.specs.Prelude.{AnyEntry, Bytes, Connectivity, DONE, Draws, Game, Halt}
use Rattle.pg_replaying.specs.Prelude.{IsHaltDue, IsSaidBy, IsSceneOfMoves, Look, NO_MEANING}
use Rattle.pg_replaying.specs.Prelude.{NoMeaning}
use Rattle.pg_replaying.specs.Prelude.{Positional, Refused, Vectors, is_over, position_after}
use Rattle.pg_replaying.specs.Records.{moves_held}
use Rattle.pg_replaying.specs.declared.drawing.TheConstants.{NO_MOVE}

-- the text is that of the picture of a scene of the game after these moves
abbrev pub DrawsMoves : Look → Game → List ℕ → Bytes → Type 0
DrawsMoves look g moves text =
    Draws look (IsSceneOfMoves look g (position_after g moves) (is_over g (position_after g moves))
    moves) text

-- after how many moves the game is drawn: after all if no number is given
abbrev pub wanted : Option ℕ → List ℕ → ℕ
wanted (Some count) moves = count
wanted None moves = length moves

-- there are fewer moves, and that is said
abbrev pub SaysNoMove : Bytes → ℕ → Type 0
SaysNoMove text status = (text ≡ NO_MOVE.now) × (status ≡ NO_MEANING)

-- the game after the first of these moves, or that there are fewer
abbrev pub IsMovesDue : Look → Game → List ℕ → ℕ → Bytes → ℕ → Type 0
IsMovesDue look g moves count text status =
    ((count ≤ length moves) × DrawsMoves look g (take count moves) text × (status ≡ DONE))
    ⊎ ((length moves < count) × SaysNoMove text status)

-- a record that was read, or why it wasn't
abbrev pub IsReadDue : Look → Game → Option ℕ → Result (List ℕ) Halt → Bytes → ℕ → Type 0
IsReadDue look g count (Err halt) text status = IsHaltDue halt text status
IsReadDue look g count (Ok moves) text status =
    IsMovesDue look g moves (wanted count moves) text status

-- a game that was read, with what the name of its record contains, or why it wasn't
abbrev pub IsRecordDue : Look
    → Option ℕ
    → Result AnyEntry Halt
    → Option Bytes
    → Bytes
    → ℕ
    → Type 0
IsRecordDue look count (Err halt) bytes text status = IsHaltDue halt text status
IsRecordDue look count (Ok (Connectivity e)) bytes text status =
    IsHaltDue (Refused NoMeaning) text status
IsRecordDue look count (Ok (Vectors e)) bytes text status =
    IsHaltDue (Refused NoMeaning) text status
IsRecordDue look count (Ok (Positional e)) bytes text status =
    (g : Game) × IsSaidBy e g × IsReadDue look g count (moves_held g bytes) text status
