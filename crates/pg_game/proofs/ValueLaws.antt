-- The value by the rules themselves, and what a side forces by one step.
use Rattle.std.proofs.Common.{◌≡◌, ℕ, ◌<◌, true, false, map}
use Rattle.pg_game.proofs.Common.{list_any, list_all, Side, other, Goal, Win}
use Rattle.pg_game.specs.declared.position.Position.{Position}
use Rattle.pg_game.specs.Position.{is_free}
use Rattle.pg_game.specs.declared.game.Game.{Game}
use Rattle.pg_game.specs.Game.{after, free_points, point_count, is_over, outcome}
use Rattle.pg_game.specs.Rules.{free_below}
use Rattle.pg_game.specs.Value.{best, value, reaches, rules_of, Forces}
use Rattle.pg_game.proofs.Scores.{reaches-any}
use Rattle.pg_game.proofs.RulesLaws.{value_by-over, value_by-step, reaches_by-own}
use Rattle.pg_game.proofs.RulesLaws.{reaches_by-theirs, ForcesBy-over, ForcesBy-move, ForcesBy-all}
use Rattle.pg_game.proofs.RulesLaws.{ForcesBy-move-from, ForcesBy-all-from}
use Rattle.pg_game.proofs.Strategy.{IsEnding-game}

-- where the game is over the value is the outcome
pub value-over : (g : Game) (p : Position) → is_over g p ≡ true → value g p ≡ outcome g p
value-over g p over = value_by-over (rules_of g) p over

-- otherwise it is the mover's best among the values after a move
pub value-step : (g : Game) (p : Position)
    → is_over g p ≡ false
    → value g p ≡ best p.turn (map (λ v. value g (after g p v)) (free_points g p))
unfolding free_points free_below
value-step g p going = value_by-step (rules_of g) (IsEnding-game g) p going

-- ---- what a side forces by one step

-- where the game is over and the outcome is good
pub Forces-over : (g : Game) (p : Position) (side : Side) (goal : Goal)
    → is_over g p ≡ true
    → reaches side goal (outcome g p) ≡ true
    → Forces g p side goal
Forces-over g p side goal over good =
    ForcesBy-over (rules_of g) (IsEnding-game g) p side goal over good

-- by a move of its own
pub Forces-move : (g : Game) (p : Position) (side : Side) (goal : Goal)
    → is_over g p ≡ false
    → p.turn ≡ side
    → (v : ℕ) → v < point_count g
    → is_free p v ≡ true
    → Forces g (after g p v) side goal
    → Forces g p side goal
Forces-move g p side goal going mine v range free child =
    ForcesBy-move (rules_of g) (IsEnding-game g) p side goal going mine v range free child

-- whatever the other side moves
pub Forces-all : (g : Game) (p : Position) (side : Side) (goal : Goal)
    → is_over g p ≡ false
    → p.turn ≡ other side
    → ((v : ℕ) → v < point_count g → is_free p v ≡ true → Forces g (after g p v) side goal)
    → Forces g p side goal
Forces-all g p side goal going yours children =
    ForcesBy-all (rules_of g) (IsEnding-game g) p side goal going yours children

-- where the mover forces the goal some move does
pub Forces-move-from : (g : Game) (p : Position) (side : Side) (goal : Goal)
    → is_over g p ≡ false
    → p.turn ≡ side
    → Forces g p side goal
    → (v : ℕ) × (v < point_count g) × (is_free p v ≡ true) × Forces g (after g p v) side goal
Forces-move-from g p side goal going mine forced =
    ForcesBy-move-from (rules_of g) (IsEnding-game g) p side goal going mine forced

-- where the side that waits forces the goal every move keeps it
pub Forces-all-from : (g : Game) (p : Position) (side : Side) (goal : Goal)
    → is_over g p ≡ false
    → p.turn ≡ other side
    → Forces g p side goal
    → (v : ℕ) → v < point_count g
    → is_free p v ≡ true
    → Forces g (after g p v) side goal
Forces-all-from g p side goal going yours forced =
    ForcesBy-all-from (rules_of g) (IsEnding-game g) p side goal going yours forced

-- a forced win serves any goal
pub Forces-any : (g : Game) (p : Position) (side : Side) (goal : Goal)
    → Forces g p side Win
    → Forces g p side goal
Forces-any g p side goal h = reaches-any side goal (value g p) h
