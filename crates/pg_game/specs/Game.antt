-- The rules: which points are free, what a move does, when a game is over and what its outcome is.
use Rattle.std.specs.Prelude.{◌≡◌, ◌<◌, ◌≤◌, ℕ, Bool, true, false, not, ◌||◌, List, [], Option}
use Rattle.std.specs.Prelude.{find, if◌then◌else◌}
use Rattle.pg_game.specs.Prelude.{range_with_len, filter, list_all, list_any, FinSet, contains}
use Rattle.pg_game.specs.Prelude.{nat_cmp, AreBelow, ShareNone, Kind, MakerBreaker, MakerMaker}
use Rattle.pg_game.specs.Prelude.{AvoiderEnforcer, Switching, Score, XWins, Draw, YWins, Side, X, Y}
use Rattle.pg_game.specs.declared.field.Field.{Field}
use Rattle.pg_game.specs.declared.game.Game.{Game}
use Rattle.pg_game.specs.declared.position.Position.{Position}
use Rattle.pg_game.specs.Field.{field_points, field_lines, field_joins}
use Rattle.pg_game.specs.Position.{is_free, points_of, claims_in_turn, after_with}

-- ---- the game

-- how many points the game has
abbrev pub point_count : Game → ℕ
point_count g = field_points g.field

-- the lines of the game
abbrev pub lines_of : Game → List (List ℕ)
lines_of g = field_lines g.field

-- how many points the side claims in one turn
abbrev pub bias_of : Game → Side → ℕ
bias_of g side = claims_in_turn g.bias side

-- the game has these parts
pub record IsGameOf (g : Game) (kind : Kind) (field : Field) (x y : FinSet nat_cmp) (turn : Side)
    (bias : ℕ) : Type 0 where
  pub same_kind : g.kind ≡ kind
  pub same_field : g.field ≡ field
  pub same_x : g.x ≡ x
  pub same_y : g.y ≡ y
  pub same_turn : g.turn ≡ turn
  pub same_bias : g.bias ≡ bias

-- the game's marks at the beginning of a side's turn
abbrev pub with_turn : Game → Side → Position
with_turn g turn = record { x = g.x; y = g.y; turn = turn; left = bias_of g turn }

-- the game's marks with the side that is to move
abbrev pub start : Game → Position
start g = with_turn g g.turn

-- ---- positions and moves

-- the sides have different points of the game, and the side to move claims at least one more and no
-- more than in a whole turn
pub record IsPosition (g : Game) (p : Position) : Type 0 where
  pub x_range : AreBelow p.x (point_count g)
  pub y_range : AreBelow p.y (point_count g)
  pub disjoint : ShareNone p.x p.y
  pub some_left : 1 ≤ p.left
  pub few_left : p.left ≤ bias_of g p.turn

-- the position after the side to move takes the point
abbrev pub after : Game → Position → ℕ → Position
after g p v = after_with g.bias p v

-- the free points in ascending order
unfoldable pub free_points : Game → Position → List ℕ
free_points g p = filter (is_free p) (range_with_len 0 (point_count g))

-- the lowest free point
abbrev pub lowest_free : Game → Position → Option ℕ
lowest_free g p = find (λ v. true) (free_points g p)

-- ---- what is filled, touched and joined

-- whether each point of the line is in the set
abbrev pub is_filled : FinSet nat_cmp → List ℕ → Bool
is_filled s line = list_all (contains s) line

-- whether some point of the line is in the set
abbrev pub is_touched : FinSet nat_cmp → List ℕ → Bool
is_touched s line = list_any (contains s) line

-- whether the side has filled a line
abbrev pub has_filled : Game → Position → Side → Bool
has_filled g p side = list_any (is_filled (points_of p side)) (lines_of g)

-- whether every line has a point of Y
abbrev pub all_touched : Game → Position → Bool
all_touched g p = list_all (is_touched p.y) (lines_of g)

-- whether a list has no member
abbrev pub is_empty : List ℕ → Bool
is_empty [] = true
is_empty _ = false

-- whether no point is free
abbrev pub is_full : Game → Position → Bool
is_full g p = is_empty (free_points g p)

-- whether X's edges join the terminals
abbrev pub short_joins : Game → Position → Bool
short_joins g p = field_joins g.field (contains p.x)

-- whether the edges that aren't Y's join the terminals
abbrev pub can_join : Game → Position → Bool
can_join g p = field_joins g.field (λ e. not (contains p.y e))

-- ---- the end

-- whether a game of the kind is over, by what X and Y have filled, whether Y has a point of every
-- line, whether no point is free, whether X's edges join the terminals, and whether those that
-- aren't Y's do
abbrev pub is_over_by : Kind → Bool → Bool → Bool → Bool → Bool → Bool → Bool
is_over_by MakerBreaker x_filled y_filled touched full joined joinable =
    x_filled || (touched || full)
is_over_by AvoiderEnforcer x_filled y_filled touched full joined joinable =
    x_filled || (touched || full)
is_over_by MakerMaker x_filled y_filled touched full joined joinable =
    x_filled || (y_filled || full)
is_over_by Switching x_filled y_filled touched full joined joinable = joined || not joinable

-- whether the game is over
unfoldable pub is_over : Game → Position → Bool
is_over g p = is_over_by g.kind (has_filled g p X) (has_filled g p Y) (all_touched g p)
    (is_full g p) (short_joins g p) (can_join g p)

-- the outcome of a game of the kind that is over, by what X and Y have filled and whether X's edges
-- join the terminals
abbrev pub outcome_by : Kind → Bool → Bool → Bool → Score
outcome_by MakerBreaker x_filled y_filled joined = if x_filled then XWins else YWins
outcome_by AvoiderEnforcer x_filled y_filled joined = if x_filled then YWins else XWins
outcome_by MakerMaker x_filled y_filled joined =
    if x_filled then XWins else (if y_filled then YWins else Draw)
outcome_by Switching x_filled y_filled joined = if joined then XWins else YWins

-- the outcome of a position that is over
unfoldable pub outcome : Game → Position → Score
outcome g p = outcome_by g.kind (has_filled g p X) (has_filled g p Y) (short_joins g p)
