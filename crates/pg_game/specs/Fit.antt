-- What every game keeps: it is within the limits, and its parts fit together.
use Rattle.std.specs.Prelude.{◌≡◌, ◌≢◌, ℕ, ◌*◌, ◌<◌, ◌≤◌, ◌==◌, true, false, List, length}
use Rattle.std.specs.Prelude.{if◌then◌else◌, Bool, Some}
use Rattle.pg_game.specs.Prelude.{All, sum_by, IsStrictlyIncreasing, FinSet, nat_cmp}
pub use Rattle.pg_base.specs.Points.{AreBelow, ShareNone}
use Rattle.pg_game.specs.Prelude.{Grid, Kind, MakerBreaker, MakerMaker, AvoiderEnforcer, Switching}
use Rattle.pg_game.specs.Prelude.{Graph, MAX_EDGES}
use Rattle.pg_game.specs.declared.bounds.TheConstants.{MAX_POINTS, MAX_LINES, MAX_LINE_POINTS}
use Rattle.pg_game.specs.declared.bounds.TheConstants.{MAX_BIASED_LINE_POINTS, MAX_SUMMED_POINTS}
use Rattle.pg_game.specs.declared.bounds.TheConstants.{MAX_VERTICES, MAX_BIAS}
use Rattle.pg_game.specs.Field.{field_points}
use Rattle.pg_game.specs.declared.field.Field.{Field}
use Rattle.pg_game.specs.declared.field.Field.TheVariants.{Lines, Graph as OnGraph}
use Rattle.pg_game.specs.declared.field.LineField.{LineField}

-- how long a line may be: shorter where Y claims several points a turn, so that sums of weights
-- stay small
abbrev pub longest : ℕ → ℕ
longest bias = if bias == 1 then MAX_LINE_POINTS else MAX_BIASED_LINE_POINTS

-- a line: ascending points of the game, at least one and not too many
pub record IsLineOf (points bias : ℕ) (line : List ℕ) : Type 0 where
  pub some : 1 ≤ length line
  pub short : length line ≤ longest bias
  pub ascending : IsStrictlyIncreasing line
  pub range : All (λ v. v < points) line

-- a field of lines within the limits
pub record AreLinesOf (bias : ℕ) (f : LineField) : Type 0 where
  pub some_points : 1 ≤ f.points
  pub few_points : f.points ≤ MAX_POINTS
  pub cells : (grid : Grid) → f.grid ≡ Some grid → grid.width * grid.height ≡ f.points
  pub few_lines : length f.lines ≤ MAX_LINES
  pub few_summed : sum_by length f.lines ≤ MAX_SUMMED_POINTS
  pub lines : All (IsLineOf f.points bias) f.lines

-- a multigraph within the limits, with two different terminals
pub record IsBoard (h : Graph) : Type 0 where
  pub some_vertices : 2 ≤ h.vertices
  pub few_vertices : h.vertices ≤ MAX_VERTICES
  pub few_edges : length h.ends ≤ MAX_EDGES
  pub ends : All (λ e. (e.0 < h.vertices) × (e.1 < h.vertices)) h.ends
  pub s_range : h.s < h.vertices
  pub t_range : h.t < h.vertices
  pub apart : h.s ≢ h.t

-- whether the kind is played on the edges of a graph
abbrev pub is_switching : Kind → Bool
is_switching Switching = true
is_switching _ = false

-- whether the field is a graph
abbrev pub is_graph : Field → Bool
is_graph (Lines f) = false
is_graph (OnGraph h) = true

-- how many points Y may claim a turn in a game of the kind
abbrev pub greatest_bias : Kind → ℕ
greatest_bias MakerBreaker = MAX_BIAS
greatest_bias AvoiderEnforcer = MAX_BIAS
greatest_bias MakerMaker = 1
greatest_bias Switching = 1

-- a game of the kind is played on such a field, and the field is within the limits
pub record FieldFits (kind : Kind) (field : Field) (bias : ℕ) : Type 0 where
  pub kind_fits : is_graph field ≡ is_switching kind
  pub on_lines : (f : LineField) → field ≡ Lines f → AreLinesOf bias f
  pub on_graph : (h : Graph) → field ≡ OnGraph h → IsBoard h

-- the parts of a game fit together and are within the limits
pub record IsFit (kind : Kind) (field : Field) (x y : FinSet nat_cmp) (bias : ℕ) : Type 0 where
  pub some_bias : 1 ≤ bias
  pub few_bias : bias ≤ greatest_bias kind
  pub within : FieldFits kind field bias
  pub x_range : AreBelow x (field_points field)
  pub y_range : AreBelow y (field_points field)
  pub disjoint : ShareNone x y
