-- Which places make a layout.
use Rattle.std.specs.Prelude.{◌≡◌, ◌≢◌, ℕ, ◌<◌, ◌≤◌, ◌&&◌, Bool, false, min, nat_lt, List, length}
use Rattle.std.specs.Prelude.{get_or, take}
use Rattle.pg_layout.specs.Prelude.{All, abs_diff}
use Rattle.pg_layout.specs.declared.chart.Chart.{Chart}
use Rattle.pg_layout.specs.declared.chart.TheConstants.{MAX_CHARTED}
use Rattle.pg_layout.specs.declared.spot.Spot.{Spot}
use Rattle.pg_layout.specs.declared.spot.TheConstants.{COLUMNS_APART, LINES_APART, MAX_STEPS}

-- less than four columns and less than two lines are between two places
abbrev pub is_near : Spot → Spot → Bool
is_near a b =
    nat_lt (abs_diff a.column b.column) COLUMNS_APART && nat_lt (abs_diff a.line b.line) LINES_APART

-- the corner
abbrev pub corner : Spot
corner = record { column = 0; line = 0 }

-- a place within the limits
abbrev pub IsSpot : Spot → Type 0
IsSpot s = (s.column ≤ MAX_STEPS) × (s.line ≤ MAX_STEPS)

-- a place for each of so many points: within the limits, and no two too near
pub record IsLayout (points : ℕ) (spots : List Spot) : Type 0 where
  pub count : length spots ≡ points
  pub within : All IsSpot spots
  pub apart : (u v : ℕ) → u < points → v < points → u ≢ v
      → is_near (get_or spots u corner) (get_or spots v corner) ≡ false

-- the places of a chart
abbrev pub spots_of : Chart → List Spot
spots_of chart = take (min chart.count MAX_CHARTED) chart.spots
