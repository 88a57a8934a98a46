-- The names of sides, and titles.
use Rattle.std.specs.Prelude.{ℕ, ◌++◌, List, codes, Option, Some, None}
use Rattle.pg_captions.specs.Prelude.{decimal, Kind, AvoiderEnforcer, MakerBreaker, MakerMaker}
use Rattle.pg_captions.specs.Prelude.{Switching, Side, Claim}
use Rattle.pg_base.specs.declared.goal.Goal.{Goal}
use Rattle.pg_base.specs.declared.goal.Goal.TheVariants.{Draw, Win}
use Rattle.pg_base.specs.declared.side.Side.TheVariants.{X, Y}

-- ---- names

-- the name of a side in games of a kind
abbrev pub side_name : Kind → Side → List ℕ
side_name MakerBreaker X = codes "Maker"
side_name MakerBreaker Y = codes "Breaker"
side_name MakerMaker X = codes "X"
side_name MakerMaker Y = codes "Y"
side_name AvoiderEnforcer X = codes "Avoider"
side_name AvoiderEnforcer Y = codes "Enforcer"
side_name Switching X = codes "Short"
side_name Switching Y = codes "Cut"

-- the name of a game of a kind
abbrev pub kind_title : Kind → List ℕ
kind_title MakerBreaker = codes "Maker-Breaker game"
kind_title MakerMaker = codes "Maker-Maker game"
kind_title AvoiderEnforcer = codes "Avoider-Enforcer game"
kind_title Switching = codes "Switching game"

-- what a side reaches
abbrev pub goal_words : Goal → List ℕ
goal_words Win = codes " wins"
goal_words Draw = codes " doesn't lose"

abbrev pub result_words : Kind → Side → Goal → List ℕ
result_words kind side goal = side_name kind side ++ goal_words goal

-- ---- titles

-- a node: what the claim's side reaches there; or, of an invalid node, the number of its fault
abbrev pub node_title : Kind → Claim → ℕ → Option ℕ → List ℕ
node_title kind claim node None =
    result_words kind claim.side claim.goal ++ (codes ": position " ++ decimal node)
node_title kind claim node (Some why) =
    codes "Position " ++ (decimal node ++ (codes ": rejected J" ++ decimal why))
