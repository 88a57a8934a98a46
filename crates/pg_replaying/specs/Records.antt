-- What a record says of a game.
use Rattle.std.specs.Prelude.{ℕ, List, Option, Result, Ok, Err, ⊤}
use Rattle.pg_replaying.specs.Prelude.{Bytes, Event, Fault, Game, Halt, NoMeaning, Record, Refused}
use Rattle.pg_replaying.specs.Prelude.{Memory, Read, Stopped, Write, held_as, number_of, record_of}
use Rattle.pg_replaying.specs.Prelude.{standing}
use Rattle.pg_messages.specs.declared.refusal.Refusal.TheVariants.{Game as FaultyGame}

-- the record file has a fault: the number of the fault and that of its line
abbrev pub record_fault : ℕ → ℕ → Halt
record_fault number line = Refused (Record number line)

-- the moves that stand in a record, or the fault of its file
abbrev pub moves_told : Result (List Event) (Fault × ℕ) → Result (List ℕ) Halt
moves_told (Ok events) = Ok (standing events)
moves_told (Err fault) = Err (record_fault (number_of fault.0) fault.1)

-- the standing moves of the record of the game that a name contains, or why it isn't read
abbrev pub moves_held : Game → Option Bytes → Result (List ℕ) Halt
moves_held g o = held_as (λ text. moves_told (record_of g text)) o

-- what can end reading a text
abbrev pub IsTextHalt : Halt → Type 0
IsTextHalt (Refused (Record number line)) = ⊤
IsTextHalt (Refused _) = ⊥
IsTextHalt (Stopped Read) = ⊥
IsTextHalt (Stopped Write) = ⊥
IsTextHalt (Stopped Memory) = ⊤

-- what can end a command that reads a game and a record early
abbrev pub IsRecordHalt : Halt → Type 0
IsRecordHalt (Refused (FaultyGame number line)) = ⊤
IsRecordHalt (Refused NoMeaning) = ⊤
IsRecordHalt (Refused (Record number line)) = ⊤
IsRecordHalt (Refused _) = ⊥
IsRecordHalt (Stopped stop) = ⊤
