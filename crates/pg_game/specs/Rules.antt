-- Games in which two sides take points in turn, by their rules alone: values, what a side forces,
-- and invariants that it keeps.
use Rattle.std.specs.Prelude.{◌≡◌, ◌<◌, ℕ, zero, suc, Bool, true, false, List, [], ◌∷◌, map, length}
use Rattle.std.specs.Prelude.{if◌then◌else◌, IsTrue}
use Rattle.pg_game.specs.Prelude.{range_with_len, filter, Goal, Win, Score, XWins, Draw, YWins}
use Rattle.pg_game.specs.Prelude.{Side, X, Y, other}
use Rattle.pg_base.specs.declared.goal.Goal.TheVariants.{Draw as AtLeastDraw}
use Rattle.pg_game.specs.declared.position.Position.{Position}
use Rattle.pg_game.specs.Position.{is_free, after_with}

-- how many points there are, how many of them Y takes in a turn, when the game is over, and the
-- outcome where it is
pub record Rules : Type 0 where
  pub points : ℕ
  pub bias : ℕ
  pub over : Position → Bool
  pub outcome : Position → Score

-- the position after the side to move takes the point
abbrev pub moved : Rules → Position → ℕ → Position
moved r p v = after_with r.bias p v

-- the free points below a number in ascending order
unfoldable pub free_below : ℕ → Position → List ℕ
free_below n p = filter (is_free p) (range_with_len 0 n)

-- the score that a side likes more
abbrev pub better : Side → Score → Score → Score
better X XWins t = XWins
better X Draw XWins = XWins
better X Draw _ = Draw
better X YWins t = t
better Y YWins t = YWins
better Y Draw YWins = YWins
better Y Draw _ = Draw
better Y XWins t = t

-- the greatest for X, the least for Y
abbrev pub best : Side → List Score → Score
best X [] = YWins
best X (s ∷ ss) = better X s (best X ss)
best Y [] = XWins
best Y (s ∷ ss) = better Y s (best Y ss)

-- the value where at most so many points are free
unfoldable pub value_within : ℕ → Rules → Position → Score
value_within zero r p = r.outcome p
value_within (suc moves) r p = if r.over p
    then r.outcome p
    else best p.turn (map (λ v. value_within moves r (moved r p v)) (free_below r.points p))

-- the value: best play by both sides, as deep as there are free points
unfoldable pub value_by : Rules → Position → Score
value_by r p = value_within (length (free_below r.points p)) r p

-- whether the score reaches the goal for the side
abbrev pub reaches : Side → Goal → Score → Bool
reaches X Win XWins = true
reaches X Win _ = false
reaches X AtLeastDraw YWins = false
reaches X AtLeastDraw _ = true
reaches Y Win YWins = true
reaches Y Win _ = false
reaches Y AtLeastDraw XWins = false
reaches Y AtLeastDraw _ = true

-- the side forces the goal: the value reaches it
abbrev pub ForcesBy : Rules → Position → Side → Goal → Type 0
ForcesBy r p side goal = IsTrue (reaches side goal (value_by r p))

-- each point is one of the game and free where it is played, and the game isn't over before it
abbrev pub IsPlayBy : Rules → Position → List ℕ → Type 0
IsPlayBy r p [] = Unit {0}
IsPlayBy r p (v ∷ others) =
    (r.over p ≡ false) × (v < r.points) × (is_free p v ≡ true) × IsPlayBy r (moved r p v) others

-- the position after the points are played
abbrev pub played_by : Rules → Position → List ℕ → Position
played_by r p [] = p
played_by r p (v ∷ others) = played_by r (moved r p v) others

-- where no point is free the game is over
pub record IsEnding (r : Rules) : Type 0 where
  pub full : (p : Position) → ((v : ℕ) → v < r.points → is_free p v ≡ false) → r.over p ≡ true

-- where the game is over the goal is reached; where the side is to move some free point keeps the
-- invariant; and every point that the other side takes keeps it
pub record KeepsBy (r : Rules) (side : Side) (goal : Goal) (I : Position → Type 0) : Type 0 where
  pub ends : (p : Position) → I p → r.over p ≡ true → reaches side goal (r.outcome p) ≡ true
  pub own : (p : Position)
      → I p
      → r.over p ≡ false
      → p.turn ≡ side
      → (v : ℕ) × (v < r.points) × (is_free p v ≡ true) × I (moved r p v)
  pub theirs : (p : Position)
      → I p
      → r.over p ≡ false
      → p.turn ≡ other side
      → (v : ℕ) → v < r.points
      → is_free p v ≡ true
      → I (moved r p v)
