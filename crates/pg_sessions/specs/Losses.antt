-- Which moves of a play lost value: the game's value after them is worse for the side that moved
-- than before.
use Rattle.std.specs.Prelude.{◌≡◌, ℕ, ◌+◌, Bool, true, not, if◌then◌else◌, List, [], ◌∷◌, ◌++◌}
use Rattle.std.specs.Prelude.{take, Some, slice_get}
use Rattle.pg_sessions.specs.Prelude.{Score, Side, X, Y, after, played, value, Game, Position}
use Rattle.pg_game.specs.Decided.{at_least}

-- whether a score is worse for the side than one before: less for X, greater for Y
abbrev pub is_worse : Side → Score → Score → Bool
is_worse X before now = not (at_least before now)
is_worse Y before now = not (at_least now before)

-- whether the side to move loses value by taking the point
abbrev pub loses_value : Game → Position → ℕ → Bool
loses_value g p v = is_worse p.turn (value g p) (value g (after g p v))

-- a move that lost value: its number, counted from 0, its point, and the values before and after it
pub record Loss : Type 0 where
  pub number : ℕ
  pub point : ℕ
  pub before : Score
  pub after : Score

-- what the move of this number loses at the position: one loss, or none
abbrev pub loss_at : Game → Position → ℕ → ℕ → List Loss
loss_at g p number v = if loses_value g p v
    then record {
      number = number;
      point = v;
      before = value g p;
      after = value g (after g p v);
    } ∷ []
    else []

-- the losses of moves from a position in order, where so many moves were made before
abbrev pub losses_from : Game → Position → ℕ → List ℕ → List Loss
losses_from g p number [] = []
losses_from g p number (v ∷ others) =
    loss_at g p number v ++ losses_from g (after g p v) (number + 1) others

-- the losses of moves from a position in order
unfoldable pub losses : Game → Position → List ℕ → List Loss
losses g p moves = losses_from g p 0 moves

-- ---- what that comes to, move by move

-- of the moves from the position this one lost value, from the one score to the other
pub record IsLoss (g : Game) (p : Position) (moves : List ℕ) (l : Loss) : Type 0 where
  pub move : slice_get moves l.number ≡ Some l.point
  pub before : value g (played g p (take l.number moves)) ≡ l.before
  pub after : value g (played g p (take (l.number + 1) moves)) ≡ l.after
  pub worse : is_worse (played g p (take l.number moves)).turn l.before l.after ≡ true
