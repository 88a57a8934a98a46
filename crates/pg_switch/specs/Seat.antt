-- A side that plays by a plan: what it keeps of the position.
use Rattle.std.specs.Prelude.{◌≡◌, ◌<◌, ℕ, true, false, List, Option, Some, None}
use Rattle.pg_switch.specs.Prelude.{Win, Side, other, Position, is_free, Rules, moved, ForcesBy}
use Rattle.pg_switch.specs.Prelude.{IsPlayBy, played_by}
use Rattle.pg_switch.specs.Claims.{IsPlace}

-- the position is that after a legal play from the start
pub record IsReachedBy (r : Rules) (start p : Position) : Type 0 where
  pub moves : List ℕ
  pub legal : IsPlayBy r start moves
  pub leads : played_by r start moves ≡ p

-- the position is reached by a legal play, the side forces its win from it, and while the game goes
-- on the plan holds
pub record IsOnPlan (r : Rules) (start : Position) (Holds : Position → Type 0) (side : Side)
    (p : Position) : Type 0 where
  pub place : IsPlace r.points p
  pub reached : IsReachedBy r start p
  pub forced : ForcesBy r p side Win
  pub holds : r.over p ≡ false → Holds p

-- the other side has just taken v, and before that the plan held
pub record HeldBeforeReply (r : Rules) (Holds : Position → Type 0) (side : Side) (p : Position)
    (v : ℕ) : Type 0 where
  pub before : Position
  pub place : IsPlace r.points before
  pub theirs : before.turn ≡ other side
  pub within : v < r.points
  pub free : is_free before v ≡ true
  pub leads : p ≡ moved r before v
  pub held : Holds before

-- the plan held before the last reply, and holds where there is none
abbrev pub HeldUntilReply : Rules → (Position → Type 0) → Side → Position → Option ℕ → Type 0
HeldUntilReply r Holds side p None = Holds p
HeldUntilReply r Holds side p (Some v) = HeldBeforeReply r Holds side p v

-- the side is to move in a game that goes on
pub record IsDue (r : Rules) (start : Position) (Holds : Position → Type 0) (side : Side)
    (p : Position) (last : Option ℕ) : Type 0 where
  pub place : IsPlace r.points p
  pub reached : IsReachedBy r start p
  pub going : r.over p ≡ false
  pub turn : p.turn ≡ side
  pub held : HeldUntilReply r Holds side p last
