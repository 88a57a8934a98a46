-- THE RULES OF A DIALOGUE over a game: which entry may come next in its log and where it leads. It
-- is asked neither how the game is kept nor what keeps it.
use Rattle.std.specs.Prelude.{◌≡◌, ◌⊎◌, ℕ, ◌+◌, ◌≤◌, nat_lt, Bool, if◌then◌else◌, Option, Some}
use Rattle.std.specs.Prelude.{None, Result, Ok, Err, codes}
use Rattle.pg_playing.specs.Prelude.{Bytes, Entry, Said, Heard, Skipped, Ended, Game, Reply}
use Rattle.pg_playing.specs.Prelude.{point_count, read_reply, trimmed}
use Rattle.pg_messages.specs.declared.message.ReplyFault.TheVariants as faults
use Rattle.pg_table.specs.declared.reply.Reply.TheVariants as reply
use Rattle.pg_playing.specs.declared.bout.Next.{Next}
use Rattle.pg_playing.specs.declared.bout.Next.TheVariants as nexts
use Rattle.pg_playing.specs.declared.bout.Turn.{Turn}
use Rattle.pg_playing.specs.declared.bout.Turn.TheVariants as turns
use Rattle.pg_playing.specs.declared.note.Note.{Note}
use Rattle.pg_playing.specs.declared.note.Note.TheVariants as notes
use Rattle.pg_playing.specs.declared.dialogue.TheConstants.{MAX_HEARD}

-- where a log is, with what was played, and after so many lines: what was played is to be shown; a
-- line is to be heard; an answer that changes nothing is to be printed; the input has ended, and
-- the prompt's line is to be ended; the game has ended or is left; or a line was heard, and memory
-- ran out before it was answered
pub data Stage (S : Type 0) : Type 0 where
  Shows : (s : S) (heard : ℕ) → Stage S
  Listens : (s : S) (heard : ℕ) → Stage S
  Notes : (s : S) (heard : ℕ) (note : Note) → Stage S
  Leaves : (s : S) → Stage S
  Closes : (s : S) → Stage S
  Stalls : (s : S) → Stage S

-- what differs between dialogues: the game; the answers; which text shows what was played, and
-- where it leads; where a point that is claimed leads, and `undo`; and what holds of what was shown
pub record Rules (S : Type 0) : Type 1 where
  pub game : Game
  pub answer : S → Note → Bytes
  pub Prints : S → ℕ → Bytes → Stage S → Type 0
  pub Claims : S → ℕ → ℕ → Stage S → Type 0
  pub Undoes : S → ℕ → Stage S → Type 0
  pub Holds : S → Type 0

-- a further line is heard, if there may be one
abbrev pub after_answer : {S : Type 0} → S → ℕ → Stage S
after_answer s heard = if nat_lt heard MAX_HEARD then Listens s heard else Closes s

-- after the board was shown: the game has ended if it is over
abbrev pub after_shown : {S : Type 0} → Bool → S → ℕ → Stage S
after_shown over s heard = if over then Closes s else after_answer s heard

-- the open lines, through a point that the game has
abbrev pub note_of_lines : Game → Option ℕ → Note
note_of_lines g None = notes.Lines None
note_of_lines g (Some v) =
    if nat_lt v (point_count g) then notes.Lines (Some v) else notes.Refused faults.NoPoint

-- where a line leads: a number that is no point is refused
abbrev pub Follows : {S : Type 0} → Rules S → S → ℕ → Reply → Stage S → Type 0
Follows R s heard (reply.Point v) next = R.Claims s heard v next
    ⊎ ((point_count R.game ≤ v) × (next ≡ Notes s heard (notes.Refused faults.NoPoint)))
Follows R s heard reply.Undo next = R.Undoes s heard next
Follows R s heard (reply.Lines through) next =
    next ≡ Notes s heard (note_of_lines R.game through)
Follows R s heard reply.Help next = next ≡ Notes s heard notes.Help
Follows R s heard reply.Quit next = next ≡ Closes s
Follows R s heard reply.NoCell next = next ≡ Notes s heard (notes.Refused faults.NoPoint)
Follows R s heard reply.Unclear next = next ≡ Notes s heard (notes.Refused faults.NoNumber)

-- THE RULES: each line that is heard has the one effect that it asks for, what was played is shown
-- after each change, and nothing else is printed but answers
abbrev pub Steps : {S : Type 0} → Rules S → Stage S → Entry → Stage S → Type 0
Steps R (Shows s heard) (Said text) next = R.Prints s heard text next
Steps R (Listens s heard) (Heard line) next =
    Follows R s (heard + 1) (read_reply R.game.field (trimmed line)) next
Steps R (Listens s heard) (Skipped line) next =
    next ≡ Notes s (heard + 1) (notes.Refused faults.NoNumber)
Steps R (Listens s heard) Ended next = next ≡ Leaves s
Steps R (Notes s heard note) (Said text) next =
    (text ≡ R.answer s note) × (next ≡ after_answer s heard)
Steps R (Leaves s) (Said text) next = (text ≡ codes "\n") × (next ≡ Closes s)
Steps R stage entry next = ⊥

-- ---- what the code does

-- where a line leads that leaves this
abbrev pub turned : {S : Type 0} → S → ℕ → Turn → Stage S
turned s heard turns.Moved = Shows s heard
turned s heard (turns.Noted note) = Notes s heard note
turned s heard turns.Ended = Closes s

-- where a text leads that leaves this
abbrev pub told : {S : Type 0} → S → ℕ → Next → Stage S
told s heard nexts.Text = Shows s heard
told s heard nexts.Line = after_answer s heard
told s heard nexts.End = Closes s

-- the stage to which a line has led; one to which it leads, if memory ran out
abbrev pub Turns : {S M : Type 0} → (Stage S → Type 0) → S → ℕ → Result Turn M → Type 0
Turns Leads s heard (Ok turn) = Leads (turned s heard turn)
Turns {S} Leads s heard (Err _) = (next : Stage S) × Leads next

-- what holds after a line, where this does after a change, and this otherwise
abbrev pub AfterTurn : Type 0 → Type 0 → Turn → Type 0
AfterTurn Moved Shown turns.Moved = Moved
AfterTurn Moved Shown (turns.Noted note) = Shown
AfterTurn Moved Shown turns.Ended = Shown

-- what holds after a text, where this does before a further one, and this otherwise
abbrev pub AfterText : Type 0 → Type 0 → Next → Type 0
AfterText Moved Shown nexts.Text = Moved
AfterText Moved Shown nexts.Line = Shown
AfterText Moved Shown nexts.End = Shown

-- of the same game the second rules allow no more than the first
pub record Allows {S : Type 0} (R Q : Rules S) : Type 0 where
  pub same_game : Q.game ≡ R.game
  pub steps : (s : Stage S) (entry : Entry) (t : Stage S) → Steps Q s entry t → Steps R s entry t
  pub holds : (s : S) → Q.Holds s → R.Holds s
