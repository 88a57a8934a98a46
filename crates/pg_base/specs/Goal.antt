-- What a side claims.
use Rattle.std.specs.Prelude.{ℕ, List, codes, Option, Some, None, if◌then◌else◌}
use Rattle.std.specs.Str.{bytes_eq}
use Rattle.pg_base.specs.declared.goal.Goal.{Goal}
use Rattle.pg_base.specs.declared.goal.Goal.TheVariants.{Win, Draw}

-- how files and texts name a goal
abbrev pub goal_word : Goal → List ℕ
goal_word Win = codes "win"
goal_word Draw = codes "draw"

-- the goal that a word names
abbrev pub goal_of : List ℕ → Option Goal
goal_of word = if bytes_eq (goal_word Win) word
    then Some Win
    else if bytes_eq (goal_word Draw) word
    then Some Draw
    else None
