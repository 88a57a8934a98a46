-- What calls on a console add to its log, and what they take from its input.
use Rattle.std.specs.Prelude.{Bool, true, false, ◌≡◌, ℕ, ◌+◌, ◌<◌, ◌≤◌, ◌==◌, List, [], ◌∷◌, ◌++◌}
use Rattle.std.specs.Prelude.{length, take, drop, Option, Some, None, Result, Ok, Err, nat_lt, ⊤}
use Rattle.std.specs.List.{position}
use Rattle.pg_base.specs.declared.signs.TheConstants.{LINE_FEED}
use Rattle.pg_io.specs.declared.entry.Entry.{Entry}
use Rattle.pg_io.specs.declared.entry.Entry.TheVariants.{Said, Heard, Skipped, Ended}
use Rattle.pg_io.specs.declared.entry.Heard.{Heard as Answer}
use Rattle.pg_io.specs.declared.entry.Heard.TheVariants.{Line, Long, End}
use Rattle.pg_io.specs.Causes.{Faults}
use Rattle.pg_io.specs.Files.{Bytes}

-- what is told of a console: the unread input and what was said and heard in order, each where it
-- is told; and always the numbers of faults
pub record ConsoleTold : Type 0 where
  pub left : Option Bytes
  pub log : Option (List Entry)
  pub faults : Faults

-- a log, where it is told, grows by these entries
abbrev pub Grows : Option (List Entry) → Option (List Entry) → List Entry → Type 0
Grows None after added = ⊤
Grows (Some log) after added = after ≡ Some (log ++ added)

-- what one hear takes of an input: the entry that it adds, and the number of bytes taken
pub record Reply : Type 0 where
  pub entry : Entry
  pub taken : ℕ

-- input without a line feed: a last line where it is shorter than the room, else a beginning as
-- long as the room
abbrev pub unended : ℕ → Bytes → Bool → Reply
unended room left true = record { entry = Heard left; taken = length left }
unended room left false = record { entry = Skipped (take room left); taken = room }

-- a line up to its line feed at this place, or input without one
abbrev pub line_of : ℕ → Bytes → Option ℕ → Reply
line_of room left (Some k) = record { entry = Heard (take k left); taken = k + 1 }
line_of room left None = unended room left (nat_lt (length left) room)

-- what one hear with this room takes of this input
unfoldable pub reply : ℕ → Bytes → Reply
reply room [] = record { entry = Ended; taken = 0 }
reply room (b ∷ left) =
    line_of room (b ∷ left) (position (λ c. c == LINE_FEED) (take room (b ∷ left)))

-- the answer, with this buffer, stands for the entry
abbrev pub Stands : Answer → Bytes → Entry → Type 0
Stands (Line k) buf entry = (k < length buf) × (entry ≡ Heard (take k buf))
Stands Long buf entry = (text : Bytes) × (entry ≡ Skipped text)
Stands End buf entry = entry ≡ Ended

-- an input, where it is told, gives this entry, and loses what it takes
abbrev pub Consumes : Option Bytes → Option Bytes → ℕ → Entry → Type 0
Consumes None after room entry = ⊤
Consumes (Some left) after room entry =
    (entry ≡ (reply room left).entry) × (after ≡ Some (drop (reply room left).taken left))

-- a hear that is done adds the entry that its answer stands for and that the input gives; a failed
-- one adds none
abbrev pub Hears : {E : Type 0}
    → Option (List Entry)
    → Option (List Entry)
    → Option Bytes
    → Option Bytes
    → Bytes
    → Result Answer E
    → Type 0
Hears log log' left left' buf (Ok answer) = (entry : Entry) × Stands answer buf entry
    × Grows log log' (entry ∷ [])
    × Consumes left left' (length buf) entry
Hears log log' left left' buf (Err _) = log' ≡ log

-- a say that is done adds its bytes; a failed one adds nothing
abbrev pub Says : {E : Type 0}
    → Option (List Entry)
    → Option (List Entry)
    → Bytes
    → Result (Unit {0}) E
    → Type 0
Says log log' bytes (Ok _) = Grows log log' (Said bytes ∷ [])
Says log log' bytes (Err _) = log' ≡ log

-- the answer, given with this room, fits an entry of this input
abbrev pub Fits : Answer → ℕ → Bytes → Entry → Type 0
Fits (Line k) room left entry = (k < room) × (k ≤ length left) × (entry ≡ Heard (take k left))
Fits Long room left entry = (text : Bytes) × (entry ≡ Skipped text)
Fits End room left entry = entry ≡ Ended
