-- Which positions make a plan.
use Rattle.std.specs.Prelude.{◌≡◌, ℕ, ◌+◌, ◌<◌, ◌≤◌, Bool, true, nat_lt, List, [], ◌∷◌, length}
use Rattle.pg_plan.specs.Prelude.{AllByRecursion, MAX_MEMBERS, list_all}
use Rattle.pg_plan.specs.declared.place.Place.{Place}
use Rattle.pg_plan.specs.declared.place.Place.TheVariants.{Decided, Game, Image, Moves}
use Rattle.pg_plan.specs.declared.place.Step.{Step}
use Rattle.pg_plan.specs.declared.place.TheConstants.{MAX_GAME_FILES, MAX_MAPS, MAX_PLACES}

-- a point and the number of a position
pub record IsStep (s : Step) : Type 0 where
  pub point : s.point < MAX_MEMBERS
  pub place : s.place < MAX_PLACES

-- the numbers of a position are in their ranges
abbrev pub IsPlace : Place → Type 0
IsPlace Decided = Unit {0}
IsPlace (Image m j) = (m < MAX_MAPS) × (j < MAX_PLACES)
IsPlace (Game k steps) = (0 < k) × (k < MAX_GAME_FILES) × AllByRecursion IsStep steps
IsPlace (Moves steps) = AllByRecursion IsStep steps

-- the positions that it names have numbers below this one
abbrev pub names_earlier : ℕ → Place → Bool
names_earlier count Decided = true
names_earlier count (Image m j) = nat_lt j count
names_earlier count (Game k steps) = list_all (λ s. nat_lt s.place count) steps
names_earlier count (Moves steps) = list_all (λ s. nat_lt s.place count) steps

-- the positions of numbers from this one on are in their ranges and name earlier ones
abbrev pub ArePlaces : ℕ → List Place → Type 0
ArePlaces count [] = Unit {0}
ArePlaces count (p ∷ ps) =
    IsPlace p × (names_earlier count p ≡ true) × ArePlaces (count + 1) ps

-- the positions make a plan
pub record IsPlan (places : List Place) : Type 0 where
  pub each : ArePlaces 0 places
  pub few : length places ≤ MAX_PLACES
