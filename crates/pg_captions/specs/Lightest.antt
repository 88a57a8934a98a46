-- The lightest lines of a position, by their free points.
use Rattle.std.specs.Prelude.{ℕ, ◌+◌, max, List, [], ◌∷◌, if◌then◌else◌}
use Rattle.pg_captions.specs.Prelude.{FinSet, count_by, nat_cmp, Kind, AvoiderEnforcer, Side}
use Rattle.pg_captions.specs.Prelude.{is_touched, is_free, points_of, Position}

-- what a line's weight is multiplied by with each free point that it loses
abbrev pub base_of : Kind → ℕ → ℕ
base_of AvoiderEnforcer bias = 2
base_of _ bias = 1 + bias

-- the points that take a line's weight: Enforcer's, or the claimer's
abbrev pub own_of : Kind → Position → Side → FinSet nat_cmp
own_of AvoiderEnforcer p side = p.y
own_of _ p side = points_of p side

-- how many free points a line has that none of these points takes
abbrev pub free_on : FinSet nat_cmp → Position → List ℕ → ℕ
free_on own p line = if is_touched own line then 0 else count_by (is_free p) line

-- the greatest number of them, 0 where there is no such line
abbrev pub most_free : FinSet nat_cmp → Position → List (List ℕ) → ℕ
most_free own p [] = 0
most_free own p (line ∷ lines) = max (free_on own p line) (most_free own p lines)
