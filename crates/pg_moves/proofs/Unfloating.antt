-- No float is printed of the moves of a game.
use Rattle.std.proofs.Common.{◌≡◌, ◌||◌, ℕ, Bool, false, List, [], ◌∷◌, map, Option}
use Rattle.std.proofs.Common.{Some, None, refl, ap₂}
use Rattle.serde_json.specs.Written.{has_float, items_have_float}
use Rattle.pg_moves.specs.JsonLines.{best_data, moves_data, number_data, trial_data, worth_data}
use Rattle.pg_moves.specs.Prelude.{Bytes, Kind, Side, items_of}
use Rattle.pg_moves.specs.declared.trial.Trial.{Trial}
use Rattle.pg_moves.specs.declared.trial.Worth.{Worth}
use Rattle.pg_moves.specs.declared.trial.Worth.TheVariants.{Known, Unknown}

of_worth : (kind : Kind) (point : ℕ) (worth : Worth)
    → has_float (worth_data kind point worth) ≡ false
of_worth kind point (Known score nodes expanded) = refl
of_worth kind point (Unknown expanded) = refl

of_trials : (kind : Kind) (trials : List Trial)
    → items_have_float (items_of (map (trial_data kind) trials)) ≡ false
of_trials kind [] = refl
of_trials kind (t ∷ trials) =
    ap₂ (λ (a b : Bool). a || b) (of_worth kind t.point t.worth) (of_trials kind trials)

of_points : (points : List ℕ)
    → items_have_float (items_of (map number_data points)) ≡ false
of_points [] = refl
of_points (v ∷ points) = of_points points

of_best : (points : Option (List ℕ)) → has_float (best_data points) ≡ false
of_best None = refl
of_best (Some points) = of_points points

pub no_float : (name : Bytes) (kind : Kind) (turn : Side) (trials : List Trial)
    (points : Option (List ℕ))
    → has_float (moves_data name kind turn trials points) ≡ false
no_float name kind turn trials points =
    ap₂ (λ (a b : Bool). a || (b || false)) (of_best points) (of_trials kind trials)
