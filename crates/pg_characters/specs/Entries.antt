-- Boards without cells: each point as an entry, in rows.
use Rattle.std.specs.Prelude.{ℕ, ◌+◌, ◌/◌, ◌%◌, ◌++◌, ◌==◌, ◌||◌, max, if◌then◌else◌, List, []}
use Rattle.std.specs.Prelude.{codes, Option, Some, None, slice_get}
use Rattle.std.specs.List.{flat_map, range_with_len}
use Rattle.pg_base.specs.Texts.{Bytes}
use Rattle.pg_game.specs.Game.{point_count}
use Rattle.pg_game.specs.Position.{is_free}
use Rattle.pg_game.specs.declared.field.Field.{Field}
use Rattle.pg_game.specs.declared.field.Field.TheVariants.{Lines, Graph as OnGraph}
use Rattle.pg_game.specs.declared.game.Game.{Game}
use Rattle.pg_graph.specs.declared.graph.Graph.{Graph}
use Rattle.pg_characters.specs.Marks.{marked}
use Rattle.pg_characters.specs.Names.{padded, padded_right}
use Rattle.pg_characters.specs.declared.entries.TheConstants.{POINT_WIDTH, EDGE_WIDTH}
use Rattle.pg_characters.specs.declared.shown.Shown.{Shown}

-- the entry of a point: its mark, or its number if it is free
abbrev pub point_text : Shown → ℕ → Bytes
point_text s v = codes " "
    ++ ((if is_free s.position v then padded v else marked s v []) ++ codes " ")

-- the two ends of an edge
abbrev pub pair_text : Option (ℕ × ℕ) → Bytes
pair_text None = []
pair_text (Some e) = padded e.0 ++ (codes "-" ++ padded_right e.1)

abbrev pub ends_text : List (ℕ × ℕ) → ℕ → Bytes
ends_text ends edge = pair_text (slice_get ends edge)

-- the entry of an edge: its number, its ends and its mark
abbrev pub edge_text : Graph → Shown → ℕ → Bytes
edge_text h s edge = padded edge
    ++ (codes ":" ++ (ends_text h.ends edge ++ (marked s edge (codes " . ") ++ codes "  ")))

-- the entry of a point of a field
abbrev pub entry_text : Field → Shown → ℕ → Bytes
entry_text (Lines f) s v = point_text s v
entry_text (OnGraph h) s v = edge_text h s v

-- how many entries are in a row of so many characters
abbrev pub entry_width : Field → ℕ
entry_width (Lines f) = POINT_WIDTH
entry_width (OnGraph h) = EDGE_WIDTH

abbrev pub in_row : Field → ℕ → ℕ
in_row field columns = max (columns / entry_width field) 1

-- the end of a row after its last entry
abbrev pub row_end : ℕ → ℕ → ℕ → Bytes
row_end points per v =
    if (v + 1) % per == 0 || v + 1 == points then codes "\n" else []

-- an entry, with the end of its row after the last one
unfoldable pub entry_in_row : Game → Shown → ℕ → ℕ → Bytes
entry_in_row g s per v = entry_text g.field s v ++ row_end (point_count g) per v

-- the entries of all points in rows
unfoldable pub entries_text : Game → Shown → Bytes
entries_text g s = flat_map (entry_in_row g s (in_row g.field s.look.columns))
    (range_with_len 0 (point_count g))
