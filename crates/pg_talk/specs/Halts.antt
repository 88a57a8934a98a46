-- What ends a command early: its status, and by which numbers of faults it shows.
use Rattle.std.specs.Prelude.{◌≡◌, ◌≢◌, ◌⊎◌, ℕ, [], Result, Ok, Err, ⊤}
use Rattle.pg_talk.specs.Prelude.{ConsoleTold, Grows, FilesTold, StopCauses, Stop, Read, Write}
use Rattle.pg_talk.specs.Prelude.{Memory, DONE, READ_FAILED, WRITE_FAILED, NO_MEMORY, INPUT_ENDED}
use Rattle.pg_talk.specs.Prelude.{OUT_OF_REPLIES}
use Rattle.pg_io.specs.Causes.{Faults, Rose}
use Rattle.pg_messages.specs.Statuses.{refusal_status}
use Rattle.pg_messages.specs.declared.refusal.Refusal.TheVariants.{NoMeaning, NoClaim, Game, Record}
use Rattle.pg_talk.specs.declared.halt.Halt.{Halt}
use Rattle.pg_talk.specs.declared.halt.Halt.TheVariants.{Refused, Stopped}

-- the status of what ends a command early
abbrev pub stop_status : Stop → ℕ
stop_status Read = READ_FAILED
stop_status Write = WRITE_FAILED
stop_status Memory = NO_MEMORY

-- what can end early a command, or a part of one, that reads nothing: a failed write, or want of
-- memory
abbrev pub IsWriteHalt : Halt → Type 0
IsWriteHalt (Refused refusal) = ⊥
IsWriteHalt (Stopped Read) = ⊥
IsWriteHalt (Stopped Write) = ⊤
IsWriteHalt (Stopped Memory) = ⊤

-- what can end a dialogue early: a failed read or write
abbrev pub IsTalkHalt : Halt → Type 0
IsTalkHalt (Refused refusal) = ⊥
IsTalkHalt (Stopped Read) = ⊤
IsTalkHalt (Stopped Write) = ⊤
IsTalkHalt (Stopped Memory) = ⊥

-- where memory is wanting nothing was said
abbrev pub MuteAtMemory : ConsoleTold → ConsoleTold → Result ℕ Halt → Type 0
MuteAtMemory before after (Ok status) = ⊤
MuteAtMemory before after (Err (Refused refusal)) = ⊤
MuteAtMemory before after (Err (Stopped Read)) = ⊤
MuteAtMemory before after (Err (Stopped Write)) = ⊤
MuteAtMemory before after (Err (Stopped Memory)) = Grows before.log after.log []

-- what can end a command that reads a game early
abbrev pub IsGameHalt : Halt → Type 0
IsGameHalt (Refused (Game number line)) = ⊤
IsGameHalt (Refused _) = ⊥
IsGameHalt (Stopped stop) = ⊤

-- what can end a command that reads a game and a certificate early
abbrev pub IsReadHalt : Halt → Type 0
IsReadHalt (Refused NoMeaning) = ⊥
IsReadHalt (Refused (NoClaim side)) = ⊥
IsReadHalt (Refused (Record number line)) = ⊥
IsReadHalt _ = ⊤

-- what can end a play early
abbrev pub IsPlayHalt : Halt → Type 0
IsPlayHalt (Refused NoMeaning) = ⊥
IsPlayHalt (Refused (Record number line)) = ⊥
IsPlayHalt _ = ⊤

-- with which status a play ends
abbrev pub IsPlayEnd : ℕ → Type 0
IsPlayEnd status = (status ≡ DONE) ⊎ ((status ≡ INPUT_ENDED) ⊎ (status ≡ OUT_OF_REPLIES))

-- ---- causes

-- work on one object: where it is done or refuses, both numbers are left, and what stops it has its
-- cause
abbrev pub HaltCauses : {T : Type 0} → Type 0 → Faults → Faults → Result T Halt → Type 0
HaltCauses absent before now (Ok _) = now ≡ before
HaltCauses absent before now (Err (Refused refusal)) = now ≡ before
HaltCauses absent before now (Err (Stopped stop)) = StopCauses absent before now stop

-- no number rose
pub record Calm (files files' : FilesTold) (console console' : ConsoleTold) : Type 0 where
  pub on_files : files'.faults ≡ files.faults
  pub on_console : console'.faults ≡ console.faults

-- a number of failed reads rose, or there is the other cause given
abbrev pub ReadCause : Type 0 → FilesTold → FilesTold → ConsoleTold → ConsoleTold → Type 0
ReadCause absent files files' console console' =
    (Rose files.faults.reads files'.faults.reads ⊎ Rose console.faults.reads console'.faults.reads)
    ⊎ absent

-- a number of failed writes rose
abbrev pub WriteCause : FilesTold → FilesTold → ConsoleTold → ConsoleTold → Type 0
WriteCause files files' console console' = Rose files.faults.writes files'.faults.writes
    ⊎ Rose console.faults.writes console'.faults.writes

-- work on files and a console: where it is done or refuses, all numbers are left, and what stops it
-- has its cause
abbrev pub BothCauses : Type 0
    → FilesTold
    → FilesTold
    → ConsoleTold
    → ConsoleTold
    → Result ℕ Halt
    → Type 0
BothCauses absent files files' console console' (Ok _) = Calm files files' console console'
BothCauses absent files files' console console' (Err (Refused refusal)) =
    Calm files files' console console'
BothCauses absent files files' console console' (Err (Stopped Read)) =
    ReadCause absent files files' console console'
BothCauses absent files files' console console' (Err (Stopped Write)) =
    WriteCause files files' console console'
BothCauses absent files files' console console' (Err (Stopped Memory)) =
    Calm files files' console console'

-- the causes of a status: a failed read or an absent name, a failed write; at any other no number
-- of faults rose
pub record HasCause (absent : Type 0) (files files' : FilesTold) (console console' : ConsoleTold)
    (status : ℕ) : Type 0 where
  pub read : status ≡ READ_FAILED → ReadCause absent files files' console console'
  pub write : status ≡ WRITE_FAILED → WriteCause files files' console console'
  pub other : status ≢ READ_FAILED → status ≢ WRITE_FAILED → Calm files files' console console'
