-- The best of the moves of a game.
use Rattle.std.specs.Prelude.{ℕ, Bool, true, false, List, [], ◌∷◌, map, Option, Some, None}
use Rattle.std.specs.Prelude.{if◌then◌else◌, option_map}
use Rattle.std.specs.Global.{Vec}
use Rattle.pg_moves.specs.Prelude.{Draw, Game, Score, Side, X, XWins, Y, YWins, best, filter}
use Rattle.pg_moves.specs.Prelude.{list_all, start, value}
use Rattle.pg_moves.specs.Trials.{legal_moves, moved}
use Rattle.pg_moves.specs.declared.trial.Trial.{Trial}
use Rattle.pg_moves.specs.declared.trial.Worth.{Worth}
use Rattle.pg_moves.specs.declared.trial.Worth.TheVariants.{Known, Unknown}

abbrev pub same_score : Score → Score → Bool
same_score XWins XWins = true
same_score Draw Draw = true
same_score YWins YWins = true
same_score _ _ = false

-- whether the value is known
abbrev pub is_known : Worth → Bool
is_known (Known score nodes expanded) = true
is_known (Unknown expanded) = false

-- whether that after each move is known
abbrev pub all_known : List Trial → Bool
all_known trials = list_all (λ (t : Trial). is_known t.worth) trials

-- the legal moves that keep the value of the game's own position
abbrev pub keeping : Game → List ℕ
keeping g = filter (λ v. same_score (value g (moved g v)) (value g (start g))) (legal_moves g)

-- THE BEST MOVES: those that keep the value, where the value after each move is known
abbrev pub best_moves : Game → List Trial → Option (List ℕ)
best_moves g trials = if all_known trials then Some (keeping g) else None

-- ---- the code that finds them

-- whether the value is known and is this score
abbrev pub has_score : Score → Worth → Bool
has_score score (Known own nodes expanded) = same_score own score
has_score score (Unknown expanded) = false

-- the score before the others, where it is known
abbrev pub with_known : Worth → List Score → List Score
with_known (Known score nodes expanded) scores = score ∷ scores
with_known (Unknown expanded) scores = scores

abbrev pub known_scores : List Trial → List Score
known_scores [] = []
known_scores (t ∷ trials) = with_known t.worth (known_scores trials)

-- the points of the moves with this score
abbrev pub points_with : Score → List Trial → List ℕ
points_with score trials =
    map (λ (t : Trial). t.point) (filter (λ (t : Trial). has_score score t.worth) trials)

-- the best score for a side, by whether X wins, a draw and a win of Y are among the scores
abbrev pub best_by : Side → Bool → Bool → Bool → Score
best_by X true draws y_wins = XWins
best_by X false true y_wins = Draw
best_by X false false y_wins = YWins
best_by Y x_wins draws true = YWins
best_by Y x_wins true false = Draw
best_by Y x_wins false false = XWins

-- the moves with the score that is best for the side, where all are known
abbrev pub best_tried : Side → List Trial → Option (List ℕ)
best_tried side trials = if all_known trials
    then Some (points_with (best side (known_scores trials)) trials)
    else None

-- the points of a list that there may be
abbrev pub list_of : Option (Vec ℕ) → Option (List ℕ)
list_of points = option_map (λ v. v.items) points
