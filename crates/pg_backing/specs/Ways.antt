-- The positions of a plan's numbers: the last is that of the game, and each other one is that to
-- which the first way leads.
use Rattle.std.specs.Prelude.{◌≡◌, ℕ, ◌+◌, ◌-◌, ◌*◌, ◌<◌, ◌==◌, ◌&&◌, ◌||◌, Bool, not, nat_le}
use Rattle.std.specs.Prelude.{nat_lt, if◌then◌else◌, List, [], ◌∷◌, length, drop, get_or}
use Rattle.std.specs.Prelude.{Option, Some, None, option_and_then}
use Rattle.std.specs.Option.{option_or}
use Rattle.pg_base.specs.declared.grid.Grid.{Grid}
use Rattle.pg_base.specs.declared.limits.TheConstants.{MAX_MEMBERS}
use Rattle.pg_game.specs.Game.{after, point_count, start}
use Rattle.pg_game.specs.Position.{is_free}
use Rattle.pg_game.specs.declared.game.Game.{Game}
use Rattle.pg_game.specs.declared.position.Position.{Position}
use Rattle.pg_maps.specs.GridMaps.{image_of, numbered, reverse_of}
use Rattle.pg_maps.specs.Images.{board_of, image_position}
use Rattle.pg_maps.specs.declared.grid_map.GridMap.{GridMap}
use Rattle.pg_plan.specs.Places.{ArePlaces}
use Rattle.pg_plan.specs.declared.place.Place.{Place}
use Rattle.pg_plan.specs.declared.place.Place.TheVariants as places
use Rattle.pg_plan.specs.declared.place.Step.{Step}
use Rattle.pg_plan.specs.declared.place.TheConstants.{MAX_MAPS}

-- ---- images

-- whether the map is one of the board, whose cells are within the limits
abbrev pub has_map : Grid → GridMap → Bool
has_map grid m = nat_le (grid.width * grid.height) MAX_MEMBERS
    && (not m.exchange || grid.width == grid.height)

-- the position of which one is the image under a map of the board
abbrev pub source_by : Grid → GridMap → Position → Option Position
source_by grid m p =
    if has_map grid m then Some (image_position (image_of (reverse_of m) grid) p) else None

-- so under the map of a number, where there is such a board and such a map
abbrev pub source_on : Option Grid → ℕ → Position → Option Position
source_on None m p = None
source_on (Some grid) m p = if nat_lt m MAX_MAPS then source_by grid (numbered m) p else None

abbrev pub source_of : Game → ℕ → Position → Option Position
source_of g m p = source_on (board_of g.field) m p

-- ---- moves

-- whether the point is one of the game and nobody has it
abbrev pub may_take : Game → Position → ℕ → Bool
may_take g p v = nat_lt v (point_count g) && is_free p v

-- the position to which the first of the moves leads that may be taken and names number j
abbrev pub moved : Game → Position → List Step → ℕ → Option Position
moved g p [] j = None
moved g p (s ∷ steps) j = if may_take g p s.point && (s.place == j)
    then Some (after g p s.point)
    else moved g p steps j

-- ---- ways

-- the position to which a position of this place leads at number j
abbrev pub way : Game → Place → Position → ℕ → Option Position
way g places.Decided p j = None
way g (places.Image m k) p j = if k == j then source_of g m p else None
way g (places.Game k steps) p j = moved g p steps j
way g (places.Moves steps) p j = moved g p steps j

-- so where the position may be none
abbrev pub way_from : Game → Place → Option Position → ℕ → Option Position
way_from g place from j = option_and_then (λ p. way g place p j) from

-- that to which the first way leads, where the last of these places comes first
abbrev pub first_way : Game → List Place → List (Option Position) → ℕ → Option Position
first_way g [] from j = None
first_way g (place ∷ plan) [] j = None
first_way g (place ∷ plan) (p ∷ from) j =
    option_or (first_way g plan from j) (way_from g place p j)

-- what stands at each number stays; elsewhere stands what is given for the number
pub record ArePut (given : ℕ → Option Position) (old new : List (Option Position))
    : Type 0 where
  pub count : length new ≡ length old
  pub each : (j : ℕ)
      → j < length old
      → get_or new j None ≡ option_or (get_or old j None) (given j)

-- as many positions as places: the last is that of the game, and where places name earlier ones
-- only, each other one is that to which the first way from a greater number leads, the greatest
-- first, and None where no way does
pub record ArePositionsFrom (g : Game) (plan : List Place) (positions : List (Option Position))
    : Type 0 where
  pub count : length positions ≡ length plan
  pub last : 0 < length plan → get_or positions (length plan - 1) None ≡ Some (start g)
  pub others : ArePlaces 0 plan
      → (i : ℕ)
      → i + 1 < length plan
      → get_or positions i None
      ≡ first_way g (drop (i + 1) plan) (drop (i + 1) positions) i
