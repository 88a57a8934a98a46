-- The walk from the root to the position that is expanded next, on the board too.
use Rattle.std.specs.Prelude.{◌≡◌, ◌≢◌, ◌<◌, ℕ, true, List, [], get_or, length, Option, Some, None}
use Rattle.std.specs.Prelude.{slice_get, ◌⊎◌}
use Rattle.pg_pns.specs.Prelude.{Contains, Game, Position, is_free, free_points, point_count, start}
use Rattle.pg_pns.specs.Prelude.{after, Stand, Switching, View}
use Rattle.pg_met.specs.declared.known.Answered.{Answered}
use Rattle.pg_met.specs.declared.table.Table.{Table}
use Rattle.pg_met.specs.Known.{answer_at}

-- ---- moves

-- a move whose place has no answer
pub record IsOpenMove (moves : List (ℕ × ℕ)) (answers : List (Option Answered))
    (m : ℕ × ℕ) : Type 0 where
  pub member : Contains moves m
  pub unanswered : answer_at answers m.1 ≡ None

-- some move has no answer
abbrev pub HasOpen : List (ℕ × ℕ) → List (Option Answered) → Type 0
HasOpen moves answers = (m : ℕ × ℕ) × Contains moves m × (answer_at answers m.1 ≡ None)

-- ---- the walk

-- a place above, without an answer
pub record IsBelow (s : Table) (k : ℕ) : Type 0 where
  pub from : ℕ
  pub ups : List ℕ
  pub at : slice_get s.parents.items k ≡ Some ups
  pub member : Contains ups from
  pub before : answer_at s.answers.items from ≡ None

-- the walk may stand here: neither this place nor the one before it has an answer
pub record IsOnWay (s : Table) (k : ℕ) : Type 0 where
  pub unanswered : answer_at s.answers.items k ≡ None
  pub link : (k ≡ 0) ⊎ IsBelow s k

-- how many points are free at the place
abbrev pub free_at : Game → Table → ℕ → ℕ
free_at g s k = length (free_points g (get_or s.positions.items k (start g)))

-- a step of the walk: a move of the position p at the place k
pub record IsStep (g : Game) (s : Table) (k : ℕ) (p : Position) (m : ℕ × ℕ) : Type 0 where
  pub on : IsOnWay s m.1
  pub fewer : free_at g s m.1 < free_at g s k
  pub range : m.0 < point_count g
  pub free : is_free p m.0 ≡ true
  pub leads : slice_get s.positions.items m.1 ≡ Some (after g p m.0)

-- ---- the board

-- the board stands at the game's position, and no play stands
pub record IsAtStart (g : Game) (b : View) : Type 0 where
  pub game : b.game ≡ g
  pub position : b.stand.position ≡ start g
  pub earlier : b.earlier ≡ []

-- how the board stood before all plays that stand
abbrev pub first_stand : View → Stand
first_stand b = get_or b.earlier 0 b.stand

-- on the way down: the board stands at the position of the place
pub record GoesDown (s : Table) (first now : View) (k : ℕ) : Type 0 where
  pub on : IsOnWay s k
  pub game : now.game ≡ first.game
  pub stands : slice_get s.positions.items k ≡ Some now.stand.position
  pub first_is : first_stand now ≡ first.stand

-- the game is the same, and so is how the board stood before all plays
pub record KeepsFirst (old new : View) : Type 0 where
  pub game : new.game ≡ old.game
  pub first_is : first_stand new ≡ first_stand old

-- below all plays the board of a game on lines stands at the game's position
pub record IsFromStart (g : Game) (b : View) : Type 0 where
  pub game : b.game ≡ g
  pub lines : g.kind ≢ Switching
  pub first : (first_stand b).position ≡ start g
