-- Texts that are said one after the other.
use Rattle.std.specs.Prelude.{◌≡◌, List, ◌++◌, map, Option, Result, Ok, Err}
use Rattle.pg_talk.specs.Prelude.{Grows, Bytes, Entry, Said, Stop, DONE}
use Rattle.pg_talk.specs.Done.{End, Finished, Failed, Starved, SaysFirst}

-- all these texts were said; where the run is cut short, the first of them. It never ends so for
-- want of memory
abbrev pub SaysAll : List Bytes → List Entry → End → Type 0
SaysAll texts entries (Finished status) = (entries ≡ map Said texts) × (status ≡ DONE)
SaysAll texts entries Failed = SaysFirst texts entries
SaysAll texts entries Starved = ⊥

-- ---- parts

-- the first of these texts were said
abbrev pub IsCut : List Bytes → Option (List Entry) → Option (List Entry) → Type 0
IsCut texts log after = (front : List Bytes) × (rest : List Bytes) × (texts ≡ front ++ rest)
    × Grows log after (map Said front)

-- all these texts were said where the work is done, and the first of them where it ended before
abbrev pub Speaks : {T : Type 0}
    → List Bytes
    → Option (List Entry)
    → Option (List Entry)
    → Result T Stop
    → Type 0
Speaks texts log after (Ok _) = Grows log after (map Said texts)
Speaks texts log after (Err _) = IsCut texts log after
