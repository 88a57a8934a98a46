-- Answers to lines that change nothing.
use Rattle.std.specs.Prelude.{codes}
use Rattle.pg_messages.specs.declared.message.ReplyFault.TheVariants as faults
use Rattle.pg_playing.specs.Prelude.{Bytes, Game, Position, ReplyFault, help_text, lines_text}
use Rattle.pg_playing.specs.declared.note.Note.{Note}
use Rattle.pg_playing.specs.declared.note.Note.TheVariants as notes

-- why a line is refused, and what may be typed
abbrev pub why_text : ReplyFault → Bytes
why_text faults.NoNumber = codes "Type a point such as b3 or 7, undo, lines, ? or quit.\n"
why_text faults.NoPoint =
    codes "There is no such point: type one like b3 or 7, or ? for help.\n"
why_text faults.Over = codes "The game is over.\n"
why_text faults.Taken = codes "That point is taken: type a free one, undo, lines, ? or quit.\n"
why_text faults.NothingToTakeBack =
    codes "Nothing can be taken back: type a point, or ? for help.\n"

-- an answer
abbrev pub note_text : Game → Position → Note → Bytes
note_text g p notes.Help = help_text g
note_text g p (notes.Lines through) = lines_text g p through
note_text g p (notes.Refused fault) = why_text fault
