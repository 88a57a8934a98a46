-- THE CHOICE: which point the program claims, and whether it is proved to keep the value.
use Rattle.std.specs.Prelude.{◌≡◌, ◌≢◌, ◌⊎◌, ◌<◌, ℕ, Bool, true, false, not, List, Option, Some}
use Rattle.std.specs.Prelude.{None, if◌then◌else◌}
use Rattle.pg_computer.specs.Prelude.{AreTrials, Budget, Game, IsGameAt, Outcome, Position, Score}
use Rattle.pg_computer.specs.Prelude.{Side, Trial, after, all_known, best, bias_of, find, has_score}
use Rattle.pg_computer.specs.Prelude.{is_free, known_scores, lowest_free, other, point_count, value}
use Rattle.pg_computer.specs.Prelude.{won_by}
use Rattle.pg_computer.specs.declared.choice.Choice.{Choice}

-- ---- the rule

-- whether the value after the move is known and is this score
abbrev pub has : Score → Trial → Bool
has score t = has_score score t.worth

abbrev pub lacks : Score → Trial → Bool
lacks score t = not (has score t)

-- the score of a move that is proved to keep the value: the best one if the value after each move
-- is known, and otherwise that of a win, since no value is better
abbrev pub aim : Side → List Trial → Score
aim side trials = if all_known trials then best side (known_scores trials) else won_by side

-- the first move that is proved; if there is none, the first one that isn't known to lose, or else
-- the lowest free point
abbrev pub chosen : Option Trial → Option Trial → ℕ → Choice
chosen (Some t) unlost lowest = record { point = t.point; proved = true }
chosen None (Some t) lowest = record { point = t.point; proved = false }
chosen None None lowest = record { point = lowest; proved = false }

abbrev pub choice_by : Side → List Trial → ℕ → Choice
choice_by side trials lowest = chosen (find (has (aim side trials)) trials)
    (find (lacks (won_by (other side))) trials) lowest

-- ---- at a position

-- in the middle of a turn of several points no move is tried, since no game file says such a
-- position: the lowest free point is claimed
pub record IsWithinTurn (g : Game) (p : Position) (lowest : ℕ) (c : Choice) : Type 0 where
  pub goes_on : p.left ≢ bias_of g p.turn
  pub untried : c ≡ record { point = lowest; proved = false }

module _ (Brings : Game → Budget → Outcome → Type 0) (budget : Budget) where
  -- at the beginning of a turn each legal move is tried in the game that has the position's marks
  pub record IsByTrials (g : Game) (p : Position) (lowest : ℕ) (c : Choice) : Type 0 where
    pub begins : p.left ≡ bias_of g p.turn
    pub here : Game
    pub stands : IsGameAt g p here
    pub trials : List Trial
    pub tried : AreTrials Brings budget here trials
    pub by_rule : c ≡ choice_by p.turn trials lowest

  -- THE CHOICE AT A POSITION: a free point. If it is proved, the value after it is the value before
  -- it
  pub record Chooses (g : Game) (p : Position) (c : Choice) : Type 0 where
    pub lowest : ℕ
    pub is_lowest : lowest_free g p ≡ Some lowest
    pub within : c.point < point_count g
    pub free : is_free p c.point ≡ true
    pub keeps : c.proved ≡ true → value g (after g p c.point) ≡ value g p
    pub made : IsByTrials g p lowest c ⊎ IsWithinTurn g p lowest c
