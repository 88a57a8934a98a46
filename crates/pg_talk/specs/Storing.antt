-- What is stored and then said.
use Rattle.std.specs.Prelude.{◌≡◌, ◌≢◌, ◌⊎◌, List, [], ◌∷◌, ◌++◌, map, Option, Some, None, Result}
use Rattle.std.specs.Prelude.{Ok, Err, false, ⊤}
use Rattle.pg_talk.specs.Prelude.{Grows, Bytes, Holding, Making, FilesTold, ReadsOnly, Entry, Said}
use Rattle.pg_talk.specs.Prelude.{Stop, message_text, Message, DONE}
use Rattle.pg_talk.specs.Done.{Done, End, Finished, Failed, Starved, Stops, behind}

-- a file was stored, and then these texts were said
abbrev pub delivered : Making → List Bytes → Done
delivered file texts = record { entries = map Said texts; stored = file ∷ [] }

-- these are the first of the texts, but not all of them
abbrev pub IsCutShort : List Bytes → List Bytes → Type 0
IsCutShort texts front = (text : Bytes) × (rest : List Bytes) × (texts ≡ front ++ text ∷ rest)

-- the file is stored, and then the texts are said; where a call fails, the file was stored, but not
-- all was said. It never ends so for want of memory
abbrev pub Delivers : Making → List Bytes → Done → End → Type 0
Delivers file texts done (Finished status) = (done ≡ delivered file texts) × (status ≡ DONE)
Delivers file texts done Failed =
    (front : List Bytes) × IsCutShort texts front × (done ≡ delivered file front)
Delivers file texts done Starved = ⊥

-- the file is stored and the texts are said, and then this is done; where the run is stopped, what
-- came behind was done so far or not begun
abbrev pub DeliversThen : Making → List Bytes → (Done → End → Type 0) → Done → End → Type 0
DeliversThen file texts Act done (Finished status) =
    (part : Done) × Act part (Finished status) × (done ≡ behind (delivered file texts) part)
DeliversThen file texts Act done Failed = Delivers file texts done Failed
    ⊎ ((part : Done) × Stops Act part Failed × (done ≡ behind (delivered file texts) part))
DeliversThen file texts Act done Starved =
    (part : Done) × Stops Act part Starved × (done ≡ behind (delivered file texts) part)

-- the name is none of these
abbrev pub IsNoneOf : Bytes → List Bytes → Type 0
IsNoneOf other [] = ⊤
IsNoneOf other (name ∷ names) = (other ≢ name) × IsNoneOf other names

-- all names but these keep what they held
abbrev pub KeepOthers : List Bytes → Option Holding → Option Holding → Type 0
KeepOthers names None after = ⊤
KeepOthers names (Some held) None = ⊥
KeepOthers names (Some held) (Some after) =
    (other : Bytes) → IsNoneOf other names → after other ≡ held other

-- the files are only read, or files were stored under these names alone: then no file is being made
abbrev pub StoresAt : List Bytes → FilesTold → FilesTold → Type 0
StoresAt names before after =
    ReadsOnly before after ⊎ ((after.busy ≡ false) × KeepOthers names before.held after.held)

-- ---- the code that delivers

-- the texts of a message and of a further one, where there is one
abbrev pub texts_of : Message → Option Message → List Bytes
texts_of message None = message_text message ∷ []
texts_of message (Some further) = message_text message ∷ message_text further ∷ []

-- the texts were said; or a call has failed before all were
abbrev pub SaysTexts : List Bytes
    → Option (List Entry)
    → Option (List Entry)
    → Result (Unit {0}) Stop
    → Type 0
SaysTexts texts log after (Ok _) = Grows log after (map Said texts)
SaysTexts texts log after (Err stop) =
    (front : List Bytes) × IsCutShort texts front × Grows log after (map Said front)
