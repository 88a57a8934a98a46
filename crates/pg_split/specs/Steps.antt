-- The moves of a position of a plan.
use Rattle.std.specs.Prelude.{◌≡◌, ◌&&◌, ℕ, Bool, List, nat_lt, true}
use Rattle.pg_base.specs.declared.limits.TheConstants.{MAX_MEMBERS}
use Rattle.pg_plan.specs.Places.{IsStep}
use Rattle.pg_plan.specs.Prelude.{AllByRecursion, list_all}
use Rattle.pg_plan.specs.declared.place.Step.{Step}

-- the move is of a point, and leads to a position of a lower number
abbrev pub is_step : ℕ → Step → Bool
is_step count s = nat_lt s.point MAX_MEMBERS && nat_lt s.place count

-- the moves are of points, and lead to positions of lower numbers
pub record AreSteps (count : ℕ) (steps : List Step) : Type 0 where
  pub range : AllByRecursion IsStep steps
  pub earlier : list_all (λ (s : Step). nat_lt s.place count) steps ≡ true
