-- The bytes of an answer.
use Rattle.std.specs.Prelude.{ℕ, List, [], ◌∷◌, ◌++◌, length, map, Option, Some, None}
use Rattle.std.specs.Int.{to_le_bytes, w64}
use Rattle.pg_io.specs.Files.{Bytes, Holding}
use Rattle.pg_io.specs.declared.entry.Entry.{Entry}
use Rattle.pg_io.specs.declared.entry.Entry.TheVariants.{Said, Heard, Skipped, Ended}
use Rattle.pg_request.specs.declared.answering.TheConstants.{SAID, HEARD, SKIPPED, ENDED}

-- a part: its length in eight bytes, the lowest first, and its bytes
unfoldable pub part : Bytes → Bytes
part bytes = to_le_bytes w64 (length bytes) ++ bytes

-- parts in order
abbrev pub frame : List Bytes → Bytes
frame [] = []
frame (bytes ∷ others) = part bytes ++ frame others

-- an entry of a log, after the sign of what it is
abbrev pub entry_part : Entry → Bytes
entry_part (Said text) = SAID ∷ text
entry_part (Heard text) = HEARD ∷ text
entry_part (Skipped text) = SKIPPED ∷ text
entry_part Ended = ENDED ∷ []

-- two parts for a name that is held: the name, and its bytes
abbrev pub file_frame : Bytes → Option Bytes → Bytes
file_frame name None = []
file_frame name (Some bytes) = part name ++ part bytes

-- those of all the names
abbrev pub held_frame : Holding → List Bytes → Bytes
held_frame held [] = []
held_frame held (name ∷ names) = file_frame name (held name) ++ held_frame held names

-- the status in one byte, the entries of the log, and the files of these names
abbrev pub answer : ℕ → List Entry → Holding → List Bytes → Bytes
answer status log held names =
    part (status ∷ []) ++ part (frame (map entry_part log)) ++ held_frame held names
