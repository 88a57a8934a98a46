-- Which graphs are Bridg-It boards: those whose edges lie between X's dots as on paper.
use Rattle.std.specs.Prelude.{ℕ, ◌+◌, ◌-◌, ◌*◌, ◌/◌, ◌%◌, ◌==◌, ◌&&◌, Bool, true, false, List}
use Rattle.std.specs.Prelude.{if◌then◌else◌, length, Option, Some, None, slice_get}
use Rattle.std.specs.List.{find, list_all, range_with_len}
use Rattle.pg_base.specs.declared.side.Side.TheVariants.{X, Y}
use Rattle.pg_gen.specs.declared.limits.TheConstants.{MAX_BRIDGE_ROWS}
use Rattle.pg_graph.specs.declared.graph.Graph.{Graph}
use Rattle.pg_characters.specs.Spots.{edges_on, span_of, spot_at}
use Rattle.pg_characters.specs.declared.spots.Spot.{Spot}
use Rattle.pg_characters.specs.declared.spots.Spot.TheVariants.{Blank, Dot, Border, Edge}

-- the vertex for which a dot of X is: the leftmost dots are the terminal 0, and the rightmost the
-- terminal 1; the others have numbers from 2, row by row
abbrev pub vertex_at : ℕ → ℕ → ℕ → ℕ
vertex_at r row column = if column / 2 == 0
    then 0
    else if column / 2 == r then 1 else 2 + (row / 2 * (r - 1) + (column / 2 - 1))

-- whether an edge has these two ends in this order
abbrev pub are_ends : Option (ℕ × ℕ) → ℕ → ℕ → Bool
are_ends None one other = false
are_ends (Some e) one other = e.0 == one && e.1 == other

abbrev pub has_ends : List (ℕ × ℕ) → ℕ → ℕ → ℕ → Bool
has_ends ends edge one other = are_ends (slice_get ends edge) one other

-- whether the edge at a place, if one is there, joins the vertices of the dots of X beside it:
-- those at the left and at the right, or those above and below
abbrev pub spot_fits : Graph → ℕ → ℕ → ℕ → Spot → Bool
spot_fits h r row column Blank = true
spot_fits h r row column (Dot side) = true
spot_fits h r row column (Border side) = true
spot_fits h r row column (Edge number X) =
    has_ends h.ends number (vertex_at r row (column - 1)) (vertex_at r row (column + 1))
spot_fits h r row column (Edge number Y) =
    has_ends h.ends number (vertex_at r (row - 1) column) (vertex_at r (row + 1) column)

abbrev pub fits_place : Graph → ℕ → ℕ → Bool
fits_place h r place = spot_fits h r (place / span_of r) (place % span_of r)
    (spot_at r (place / span_of r) (place % span_of r))

unfoldable pub fits_paper : Graph → ℕ → Bool
fits_paper h r = list_all (fits_place h r) (range_with_len 0 (span_of r * span_of r))

-- whether a graph has the vertices, the terminals and the number of edges of the board
abbrev pub is_sized : Graph → ℕ → Bool
is_sized h r = h.vertices == r * (r - 1) + 2
    && (h.s == 0 && (h.t == 1 && length h.ends == edges_on r))

-- whether a graph is the Bridg-It board of r rows
abbrev pub is_bridge : Graph → ℕ → Bool
is_bridge h r = is_sized h r && fits_paper h r

-- the number of rows of the Bridg-It board that a graph is, if it is one
unfoldable pub paper_rows : Graph → Option ℕ
paper_rows h = find (is_bridge h) (range_with_len 1 MAX_BRIDGE_ROWS)
