-- Which positions are decided without search, for the question whether X reaches a score.
use Rattle.std.specs.Prelude.{◌≡◌, ℕ, ◌%◌, Bool, true, false, not, ◌&&◌, ◌==◌, nat_lt, List, []}
use Rattle.std.specs.Prelude.{◌∷◌, length, filter, Option, Some, None, option_map, if◌then◌else◌}
use Rattle.pg_game.specs.Prelude.{list_any, minus, Goal, Win, Kind, MakerBreaker, MakerMaker}
use Rattle.pg_game.specs.Prelude.{AvoiderEnforcer, Switching, Score, XWins, Draw, YWins, Side, X, Y}
use Rattle.pg_base.specs.declared.goal.Goal.TheVariants.{Draw as AtLeastDraw}
use Rattle.pg_game.specs.declared.game.Game.{Game}
use Rattle.pg_game.specs.declared.position.Position.{Position}
use Rattle.pg_game.specs.Position.{is_free, points_of}
use Rattle.pg_game.specs.Game.{lines_of, free_points, is_touched, is_over, outcome}
use Rattle.pg_game.specs.Pairs.{breaker_of}
use Rattle.pg_game.specs.Potential.{potential_holds}
use Rattle.pg_game.specs.Avoider.{avoider_holds}
use Rattle.pg_game.specs.Threat.{may_attack, has_threat_line}

-- ---- questions and answers

-- whether the second score is at least the first
abbrev pub at_least : Score → Score → Bool
at_least XWins XWins = true
at_least XWins _ = false
at_least Draw YWins = false
at_least Draw _ = true
at_least YWins _ = true

-- what can be asked: whether X wins, and in Maker-Maker also whether X at least draws
abbrev pub IsQuestion : Kind → Score → Type 0
IsQuestion kind XWins = Unit {0}
IsQuestion MakerMaker Draw = Unit {0}
IsQuestion _ _ = ⊥

-- the side that claims an answer: X where it is yes
abbrev pub claimer : Bool → Side
claimer true = X
claimer false = Y

-- what that side claims: a win, but in Maker-Maker a draw where it denies X the win, or where X
-- asked for a draw
abbrev pub claimed_goal : Kind → Score → Bool → Goal
claimed_goal MakerMaker XWins false = AtLeastDraw
claimed_goal MakerMaker Draw true = AtLeastDraw
claimed_goal _ _ _ = Win

-- ---- the criteria

-- the side whose potential and private pairs speak to the question: Breaker, Avoider, and in
-- Maker-Maker the side that wants no less than a draw
abbrev pub defender : Kind → Score → Side
defender MakerBreaker t = Y
defender AvoiderEnforcer t = X
defender MakerMaker XWins = Y
defender MakerMaker _ = X
defender Switching t = Y

-- the answer that a side wants, which its criterion gives: yes for X
abbrev pub answer_for : Side → Bool
answer_for X = true
answer_for Y = false

-- where the game is over, whether its outcome is at least the score
abbrev pub by_end : Game → Score → Position → Option Bool
by_end g t p = if is_over g p then Some (at_least t (outcome g p)) else None

-- whether the potential of the kind holds for the side that defends
abbrev pub defends : Kind → Game → Score → Position → Bool
defends MakerBreaker g t p = potential_holds g p Y
defends MakerMaker g t p = potential_holds g p (defender MakerMaker t)
defends AvoiderEnforcer g t p = avoider_holds g p
defends Switching g t p = false

-- how many replies a threat line may force that decides a position
abbrev pub greatest_depth : ℕ
greatest_depth = 3

-- whether the side to move has a threat line that is short enough
unfoldable pub attack_wins : Game → Position → Bool
attack_wins g p = may_attack g.kind p.turn && has_threat_line greatest_depth g p

-- whether each of the lists can have two different points of its own, of those that pass
unfoldable pub has_private_pairs : List (List ℕ) → (ℕ → Bool) → Bool
has_private_pairs [] test = true
has_private_pairs (line ∷ lines) test = list_any
    (λ a. list_any (λ b. nat_lt a b && has_private_pairs lines (minus (minus test a) b))
    (filter test line)) (filter test line)

-- the lines without a point of the side that makes lines harmless to the claimer
abbrev pub lines_meant : Game → Position → Side → List (List ℕ)
lines_meant g p side =
    filter (λ line. not (is_touched (points_of p (breaker_of g.kind side)) line)) (lines_of g)

-- whether so many free points can all be paired but as Avoider may leave out: an even number with
-- Enforcer to move, an odd one with Avoider to move
abbrev pub is_pairable : Side → ℕ → Bool
is_pairable X free = free % 2 == 1
is_pairable Y free = free % 2 == 0

-- whether Avoider's pairs can hold all points that they must, and both sides claim one point a turn
abbrev pub avoider_can_pair : Kind → Game → Position → Bool
avoider_can_pair AvoiderEnforcer g p = g.bias == 1 && is_pairable p.turn (length (free_points g p))
avoider_can_pair _ g p = true

-- whether the game is on lines
abbrev pub has_lines : Kind → Bool
has_lines Switching = false
has_lines _ = true

-- whether each line meant can have two free points of its own, all different
unfoldable pub pairs_exist : Game → Position → Side → Bool
pairs_exist g p side = has_lines g.kind
    && (avoider_can_pair g.kind g p && has_private_pairs (lines_meant g p side) (is_free p))

-- ---- the first that applies

-- the criteria, in the order in which they are asked
pub data Criterion : Type 0 where
  ByEnd : Criterion
  ByPotential : Criterion
  ByThreat : Criterion
  ByPairs : Criterion

-- the first criterion that applies: the game is over, a potential holds, the side to move has a
-- short threat line, or private pairs exist
unfoldable pub first_criterion : Game → Score → Position → Option Criterion
first_criterion g t p =
    if is_over g p then Some ByEnd
    else (if defends g.kind g t p then Some ByPotential
    else (if attack_wins g p then Some ByThreat
    else (if pairs_exist g p (defender g.kind t) then Some ByPairs else None)))

-- what a criterion answers where it applies: the outcome's answer, or yes for the side whose
-- criterion it is where that is X
abbrev pub answer_by : Game → Score → Position → Criterion → Bool
answer_by g t p ByEnd = at_least t (outcome g p)
answer_by g t p ByPotential = answer_for (defender g.kind t)
answer_by g t p ByThreat = answer_for p.turn
answer_by g t p ByPairs = answer_for (defender g.kind t)

-- the answer of the first criterion that applies
unfoldable pub decided : Game → Score → Position → Option Bool
decided g t p = option_map (answer_by g t p) (first_criterion g t p)
