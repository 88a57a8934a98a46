-- What a line that was heard says.
use Rattle.std.specs.Prelude.{ℕ, ◌==◌, ◌||◌, Bool, [], ◌∷◌, reverse, nat_lt, Option, Some, None}
use Rattle.std.specs.Prelude.{Result, Ok, Err, if◌then◌else◌}
use Rattle.pg_talk.specs.Prelude.{Bytes, Position, is_free, Rules, ReplyFault, NoNumber, NoPoint}
use Rattle.pg_talk.specs.Prelude.{Taken}
use Rattle.pg_base.specs.declared.signs.TheConstants.{SPACE}
use Rattle.pg_text.specs.Text.{number}

-- a space, a tab, or a carriage return
abbrev pub is_blank : ℕ → Bool
is_blank b = b == SPACE || (b == 9 || b == 13)

-- the text without the blank bytes at its beginning
abbrev pub trimmed_start : Bytes → Bytes
trimmed_start [] = []
trimmed_start (b ∷ others) = if is_blank b then trimmed_start others else b ∷ others

-- the text without the blank bytes at its end
abbrev pub trimmed_end : Bytes → Bytes
trimmed_end text = reverse (trimmed_start (reverse text))

-- the text of a line: without the blank bytes at both ends
abbrev pub trimmed : Bytes → Bytes
trimmed line = trimmed_end (trimmed_start line)

-- the number that a line says, none where it says none: its text is one to nine decimal digits, the
-- first of several not 0
abbrev pub said_number : Bytes → Option ℕ
said_number line = number (trimmed line)

-- the free point that the number is, or why it is refused
abbrev pub point_or_refusal : Rules → Position → Option ℕ → Result ℕ ReplyFault
point_or_refusal r p None = Err NoNumber
point_or_refusal r p (Some v) =
    if nat_lt v r.points then (if is_free p v then Ok v else Err Taken) else Err NoPoint

-- the same of a line
abbrev pub replied_point : Rules → Position → Bytes → Result ℕ ReplyFault
replied_point r p line = point_or_refusal r p (said_number line)
