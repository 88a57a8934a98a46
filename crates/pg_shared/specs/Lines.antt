-- Lines as the search for shared pairs sees them.
use Rattle.std.specs.Prelude.{ℕ, Bool, ◌==◌, nat_lt, List, map, if◌then◌else◌}
use Rattle.pg_shared.specs.declared.lines.OpenLine.{OpenLine}
use Rattle.pg_shared.specs.Prelude.{FinSet, nat_cmp, difference, from_list, Position}

-- the free points of the line
abbrev pub free_of : Position → List ℕ → FinSet nat_cmp
free_of p line = difference (difference (from_list line) p.x) p.y

-- whether a line of so many points is smaller than another: it has fewer, or as many and comes
-- before it
abbrev pub is_smaller : ℕ → ℕ → Bool → Bool
is_smaller one other is_before = if one == other then is_before else nat_lt one other

-- the points of each line
abbrev pub points_in : List OpenLine → List (FinSet nat_cmp)
points_in lines = map (λ (line : OpenLine). line.points) lines
