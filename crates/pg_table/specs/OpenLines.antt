-- The lines that are still open.
use Rattle.std.specs.Prelude.{ℕ, ◌-◌, ◌++◌, ◌==◌, ◌&&◌, Bool, true, not, nat_lt, List, [], ◌∷◌}
use Rattle.std.specs.Prelude.{if◌then◌else◌, length, take, filter, codes, decimal, Option, Some}
use Rattle.std.specs.Prelude.{None}
use Rattle.std.specs.List.{flat_map, list_any, count_by}
use Rattle.pg_base.specs.Texts.{Bytes}
use Rattle.pg_base.specs.declared.kind.Kind.{Kind}
use Rattle.pg_base.specs.declared.kind.Kind.TheVariants.{MakerMaker}
use Rattle.pg_game.specs.Game.{is_touched, lines_of}
use Rattle.pg_game.specs.declared.field.Field.{Field}
use Rattle.pg_game.specs.declared.game.Game.{Game}
use Rattle.pg_game.specs.declared.position.Position.{Position}
use Rattle.pg_characters.specs.Names.{point_name}
use Rattle.pg_table.specs.declared.open_lines.TheConstants.{MAX_SHOWN_LINES, NAMES_IN_ROW}

-- whether a line can still be filled: in Maker-Maker it lacks the points of one side, else those of
-- O
abbrev pub is_open : Kind → Position → List ℕ → Bool
is_open MakerMaker p line = not (is_touched p.y line && is_touched p.x line)
is_open _ p line = not (is_touched p.y line)

-- whether a line has the point, if one is asked for
abbrev pub passes : Option ℕ → List ℕ → Bool
passes None line = true
passes (Some v) line = list_any (λ w. w == v) line

-- whether a line is open and has the point, if one is asked for
abbrev pub is_kept : Kind → Position → Option ℕ → List ℕ → Bool
is_kept kind p through line = passes through line && is_open kind p line

-- the open lines that have the point, if one is asked for
abbrev pub kept_lines : Game → Position → Option ℕ → List (List ℕ)
kept_lines g p through = filter (is_kept g.kind p through) (lines_of g)

-- what is before a name in a row with room for so many more: a space, or if there is no room, the
-- end of the row and what begins a further one
abbrev pub gap_text : ℕ → Bytes
gap_text room = if room == 0 then codes "\n    " else codes " "

-- for how many more names there is room after a name
abbrev pub room_after : ℕ → ℕ
room_after room = if room == 0 then NAMES_IN_ROW - 1 else room - 1

-- the names of points, in a row with room for so many, and in further rows
abbrev pub names_text : Field → ℕ → List ℕ → Bytes
names_text field room [] = codes "\n"
names_text field room (v ∷ others) =
    gap_text room ++ (point_name field v ++ names_text field (room_after room) others)

-- the names of a line's points
unfoldable pub line_text : Field → List ℕ → Bytes
line_text field line = names_text field NAMES_IN_ROW line

-- the first of these lines, and whether there are more
abbrev pub first_lines : Field → List (List ℕ) → Bytes
first_lines field lines = flat_map (line_text field) (take MAX_SHOWN_LINES lines)
    ++ (if nat_lt MAX_SHOWN_LINES (length lines) then codes " ..\n" else [])

unfoldable pub shown_lines : Game → Position → Option ℕ → Bytes
shown_lines g p through = first_lines g.field (kept_lines g p through)

-- how many lines are open
unfoldable pub count_text : ℕ → Bytes
count_text count = codes "open lines: " ++ (decimal count ++ codes "\n")

-- how many lines are open, and the first of them
abbrev pub lines_text : Game → Position → Option ℕ → Bytes
lines_text g p through =
    count_text (count_by (is_kept g.kind p through) (lines_of g)) ++ shown_lines g p through
