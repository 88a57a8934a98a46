-- What a line typed at a board means.
use Rattle.std.specs.Prelude.{ℕ, ◌+◌, ◌-◌, ◌*◌, ◌&&◌, nat_lt, nat_le, Bool, if◌then◌else◌, []}
use Rattle.std.specs.Prelude.{◌∷◌, codes, Option, Some, None}
use Rattle.pg_base.specs.Texts.{Bytes}
use Rattle.std.specs.Str.{bytes_eq}
use Rattle.pg_base.specs.declared.grid.Grid.{Grid}
use Rattle.pg_base.specs.declared.signs.TheConstants.{SPACE}
use Rattle.pg_game.specs.declared.field.Field.{Field}
use Rattle.pg_game.specs.declared.field.Field.TheVariants.{Lines, Graph as OnGraph}
use Rattle.pg_text.specs.Text.{number, two_parts}
use Rattle.pg_table.specs.declared.reply.Named.{Named}
use Rattle.pg_table.specs.declared.reply.Named.TheVariants as named
use Rattle.pg_table.specs.declared.reply.Reply.{Reply}
use Rattle.pg_table.specs.declared.reply.Reply.TheVariants as reply

-- a lowercase letter of ASCII
abbrev pub is_letter : ℕ → Bool
is_letter b = nat_le 97 b && nat_le b 122

-- whether the board has a cell in this column, and in the row of this number from 1
abbrev pub has_cell : Grid → ℕ → ℕ → Bool
has_cell grid column row =
    nat_lt column grid.width && (nat_lt 0 row && nat_le row grid.height)

-- the cell in this column, and in the row of this number
abbrev pub cell_at : Grid → ℕ → Option ℕ → Named
cell_at grid column None = named.Nothing
cell_at grid column (Some row) = if has_cell grid column row
    then named.Point ((row - 1) * grid.width + column)
    else named.NoCell

-- the cell whose column has two letters, if the second byte is a letter, else one letter
abbrev pub after_letter : Grid → ℕ → Bytes → Named
after_letter grid one [] = cell_at grid (one - 97) (number [])
after_letter grid one (other ∷ row) = if is_letter other
    then cell_at grid ((one - 97 + 1) * 26 + (other - 97)) (number row)
    else cell_at grid (one - 97) (number (other ∷ row))

-- the cell that a text names: by one or two letters for the column, and the number of the row
abbrev pub cell_named : Grid → Bytes → Named
cell_named grid [] = named.Nothing
cell_named grid (one ∷ others) =
    if is_letter one then after_letter grid one others else named.Nothing

-- what a text names on a field on lines, and on any field: a point by its number, or a cell
abbrev pub cell_of : Option Grid → Bytes → Named
cell_of None text = named.Nothing
cell_of (Some grid) text = cell_named grid text

abbrev pub named_on : Field → Bytes → Named
named_on (Lines f) text = cell_of f.grid text
named_on (OnGraph h) text = named.Nothing

abbrev pub number_or : Option ℕ → Named → Named
number_or (Some n) other = named.Point n
number_or None other = other

abbrev pub field_point : Field → Bytes → Named
field_point field text = number_or (number text) (named_on field text)

-- what is to be done with what was named
abbrev pub lines_through : Named → Reply
lines_through named.Nothing = reply.Unclear
lines_through named.NoCell = reply.NoCell
lines_through (named.Point v) = reply.Lines (Some v)

abbrev pub claim_of : Named → Reply
claim_of named.Nothing = reply.Unclear
claim_of named.NoCell = reply.NoCell
claim_of (named.Point v) = reply.Point v

-- what two words ask for
abbrev pub read_pair : Field → Bytes → Bytes → Reply
read_pair field first second = if bytes_eq first (codes "lines")
    then lines_through (field_point field second)
    else reply.Unclear

-- what one word asks for, if it is a command
abbrev pub read_command : Bytes → Option Reply
read_command text = if bytes_eq text (codes "undo")
    then Some reply.Undo
    else if bytes_eq text (codes "lines")
    then Some (reply.Lines None)
    else if bytes_eq text (codes "?")
    then Some reply.Help
    else if bytes_eq text (codes "quit") then Some reply.Quit else None

-- two words, or a point
abbrev pub read_words : Field → Bytes → Option (Bytes × Bytes) → Reply
read_words field text (Some pair) = read_pair field pair.0 pair.1
read_words field text None = claim_of (field_point field text)

abbrev pub command_or : Option Reply → Reply → Reply
command_or (Some command) other = command
command_or None other = other

-- what a text typed at a board means
abbrev pub read_reply : Field → Bytes → Reply
read_reply field text =
    command_or (read_command text) (read_words field text (two_parts SPACE text))
