-- What a line that was heard asks of a session.
use Rattle.std.specs.Prelude.{ℕ, Option, Some, None, codes, if◌then◌else◌}
use Rattle.pg_sessions.specs.Prelude.{bytes_eq, Bytes}
use Rattle.pg_text.specs.Text.{number}
use Rattle.pg_talk.specs.Reply.{trimmed}
use Rattle.pg_sessions.specs.declared.request.Request.{Request}
use Rattle.pg_sessions.specs.declared.request.Request.TheVariants.{End, Back, Move, Unclear}

-- a number asks for a move
abbrev pub move_asked : Option ℕ → Request
move_asked None = Unclear
move_asked (Some v) = Move v

-- what a text asks for: `end`, `back`, or a number
abbrev pub asked_by : Bytes → Request
asked_by text = if bytes_eq text (codes "end")
    then End
    else (if bytes_eq text (codes "back") then Back else move_asked (number text))

-- what a line asks for, by its text without the blank bytes at both ends
abbrev pub request_of : Bytes → Request
request_of line = asked_by (trimmed line)
