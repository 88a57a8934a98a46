-- The claims that are due for an answer, by their headings.
use Rattle.std.specs.Prelude.{List, [], ◌∷◌}
use Rattle.pg_solve.specs.Prelude.{Goal, Win, Score, XWins, Draw, YWins, Side, X, Y, Claim}
use Rattle.pg_base.specs.declared.goal.Goal.TheVariants.{Draw as AtLeastDraw}
use Rattle.pg_solve.specs.declared.solution.Class.{Class}
use Rattle.pg_solve.specs.declared.solution.Class.TheVariants.{Short, Cut, First}

-- who moves first, who claims, and what
pub record Heading : Type 0 where
  pub turn : Side
  pub side : Side
  pub goal : Goal

-- the heading of a claim
abbrev pub heading : Claim → Heading
heading claim = record { turn = claim.turn; side = claim.side; goal = claim.goal }

-- with this turn the side wins
abbrev pub wins : Side → Side → Heading
wins turn side = record { turn = turn; side = side; goal = Win }

-- with this turn the side gets at least a draw
abbrev pub draws : Side → Side → Heading
draws turn side = record { turn = turn; side = side; goal = AtLeastDraw }

-- for a value: that the winner wins; or that Y, and then that X, gets at least a draw
abbrev pub due_for_value : Side → Score → List Heading
due_for_value turn XWins = wins turn X ∷ []
due_for_value turn YWins = wins turn Y ∷ []
due_for_value turn Draw = draws turn Y ∷ draws turn X ∷ []

-- who wins a game of the class with this turn
abbrev pub winner : Class → Side → Side
winner Short turn = X
winner Cut turn = Y
winner First turn = turn

-- for a class: that the winner wins, with X and then with Y to move first
abbrev pub due_for_class : Class → List Heading
due_for_class class = wins X (winner class X) ∷ wins Y (winner class Y) ∷ []
