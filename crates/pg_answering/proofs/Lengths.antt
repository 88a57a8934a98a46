-- How long an answer is, and what is returned with it.
use Rattle.std.proofs.Common.{◌≡◌, ◌∙◌, ℕ, ◌+◌, ◌≤◌, List, [], ◌∷◌, ◌++◌, length, map}
use Rattle.std.proofs.Common.{sym, ap, ap₂, arith, length-append, subst, Some}
use Rattle.std.specs.Int.{to_le_bytes, w64}
use Rattle.pg_io.specs.Files.{Bytes, Holding}
use Rattle.pg_io.specs.declared.entry.Entry.{Entry}
use Rattle.pg_request.specs.Answer.{answer, entry_part, frame, held_frame}
use Rattle.pg_request.specs.Request.{Asked}
use Rattle.pg_answering.specs.Answers.{Answers, Responds, placed}
use Rattle.pg_answering.specs.Programs.{program_of}
use Rattle.pg_answering.specs.declared.program.Program.{Program}
unfoldable use Rattle.pg_request.specs.Answer.{part}

-- a part is longer by eight bytes than its bytes
part_length : (bytes : Bytes) → length (part bytes) ≡ 8 + length bytes
unfolding part
part_length bytes = length-append (to_le_bytes w64 (length bytes)) bytes

-- two parts, and what follows
parts_length : (first second after : Bytes)
    → length (part first ++ part second ++ after)
    ≡ ((8 + length first) + (8 + length second)) + length after
parts_length first second after = length-append (part first ++ part second) after
    ∙ ap (λ (n : ℕ). n + length after) (length-append (part first) (part second)
    ∙ ap₂ (λ (n k : ℕ). n + k) (part_length first) (part_length second))

-- an answer begins with two parts, of which the first has one byte
answer_length : (status : ℕ) (log : List Entry) (held : Holding) (names : List Bytes)
    → 17 ≤ length (answer status log held names)
answer_length status log held names =
    let said = frame (map entry_part log) in
    let whole : length (answer status log held names)
    ≡ ((8 + 1) + (8 + length said)) + length (held_frame held names)
    = parts_length (status ∷ []) said (held_frame held names) in
    omega (arith, whole)

-- an answer to a request has at least 17 bytes
answers_length : (program : Program) (request : Asked) (bytes : Bytes)
    → Answers program request bytes
    → 17 ≤ length bytes
answers_length program request bytes is = subst (λ (found : Bytes). 17 ≤ length found) (sym is.says)
    (answer_length is.status is.log is.held request.words)

-- what is returned with an answer that is placed
pub responds : (program : Program) (request : Asked) (bytes room room' : Bytes) (returned : ℕ)
    → program_of request.words ≡ Some program
    → Answers program request bytes
    → returned ≡ length bytes
    → room' ≡ placed bytes room
    → Responds request room room' returned
responds program request bytes room room' returned named is count put =
    let long = answers_length program request bytes is in
    record {
      starved = λ starved. absurd (omega arith);
      unnamed = λ unnamed. absurd (omega arith);
      answered = λ _ _. record {
        program = program;
        named = named;
        bytes = bytes;
        answers = is;
        count = count;
        put = put;
      };
    }
