-- WHAT AN ANSWER IS.
use Rattle.std.specs.Prelude.{◌≡◌, ◌≢◌, ℕ, ◌++◌, if◌then◌else◌, nat_le, List, length, drop}
use Rattle.std.specs.Prelude.{Some, None}
use Rattle.pg_io.specs.Files.{Bytes, Holding}
use Rattle.pg_io.specs.declared.entry.Entry.{Entry}
use Rattle.pg_request.specs.Answer.{answer}
use Rattle.pg_request.specs.Request.{Asked}
use Rattle.pg_answering.specs.Drawing.{Draws, sheet_of}
use Rattle.pg_answering.specs.Machine.{Told, fresh}
use Rattle.pg_answering.specs.Programs.{arguments_of, program_of}
use Rattle.pg_answering.specs.Settling.{DoesTask}
use Rattle.pg_answering.specs.Solving.{RunsPosgame}
use Rattle.pg_answering.specs.Tasks.{task_of}
use Rattle.pg_answering.specs.declared.program.Program.{Program}
use Rattle.pg_answering.specs.declared.program.Program.TheVariants.{Posgame, Settle, Draw}
use Rattle.pg_answering.specs.declared.responding.TheConstants.{NO_PROGRAM, OUT_OF_MEMORY}

-- A run of the program with these arguments takes files and console from the first state to the
-- second, and ends with this status.
abbrev pub Runs : Program → List Bytes → Told → Told → ℕ → Type 0
Runs Posgame arguments before after status = RunsPosgame arguments before after status
Runs Settle arguments before after status = DoesTask (task_of arguments) before after status
Runs Draw arguments before after status = Draws (sheet_of arguments) before after status

-- The bytes are the answer to the request: the program was run with the words after the first, on
-- the files and the input of the request, and the bytes are the status, all that was printed and
-- read, and what the names among the words contain afterwards.
pub record Answers (program : Program) (request : Asked) (bytes : Bytes) : Type 0 where
  pub status : ℕ
  pub after : Told
  pub ran : Runs program (arguments_of request.words) (fresh request.files request.input) after
      status
  pub log : List Entry
  pub logged : after.console.log ≡ Some log
  pub held : Holding
  pub holds : after.files.held ≡ Some held
  pub says : bytes ≡ answer status log held request.words

-- the answer at the beginning of the room, if it fits; if not, the room stays
abbrev pub placed : Bytes → Bytes → Bytes
placed bytes room = if nat_le (length bytes) (length room)
    then bytes ++ drop (length bytes) room
    else room

-- an answer to the request is placed, and its length is returned
pub record IsAnswered (request : Asked) (room room' : Bytes) (returned : ℕ) : Type 0 where
  pub program : Program
  pub named : program_of request.words ≡ Some program
  pub bytes : Bytes
  pub answers : Answers program request bytes
  pub count : returned ≡ length bytes
  pub put : room' ≡ placed bytes room

-- what is returned, and what stands in the room: memory ran out, or the request names no program,
-- or it is answered
pub record Responds (request : Asked) (room room' : Bytes) (returned : ℕ) : Type 0 where
  pub starved : returned ≡ OUT_OF_MEMORY → room' ≡ room
  pub unnamed : returned ≡ NO_PROGRAM → (program_of request.words ≡ None) × (room' ≡ room)
  pub answered : returned ≢ OUT_OF_MEMORY → returned ≢ NO_PROGRAM
      → IsAnswered request room room' returned
