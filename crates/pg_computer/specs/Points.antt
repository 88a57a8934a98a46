-- Sessions from which no point was taken back, and who has claimed which of their points.
use Rattle.std.specs.Prelude.{◌≡◌, ◌<◌, ℕ, Bool, true, false, not, List, length, map, take, Option}
use Rattle.std.specs.Prelude.{Some, None}
use Rattle.pg_computer.specs.Prelude.{Budget, Event, Game, IsBudget, IsRecord, IsSeated, Play}
use Rattle.pg_computer.specs.Prelude.{Recorded, Side, Table, is_same_side, position_after, standing}

-- the events are those of a session, in which these points were claimed and none was taken back
pub record ArePoints (g : Game) (events : List Event) : Type 0 where
  pub points : List ℕ
  pub are : events ≡ map Play points
  pub allowed : IsRecord g events

-- at the table no point was taken back, and the budget is one
abbrev pub IsReady : Table → Budget → Type 0
IsReady table budget = IsSeated table × ArePoints table.session.game table.session.events
    × IsBudget budget

-- the table stays, with a point more
abbrev pub Grows : Table → Table → Type 0
Grows old new = (new.game.now ≡ old.game.now) × (new.look ≡ old.look)
    × (length old.session.events < length new.session.events)

-- the game stays, and so does this
abbrev pub Keeps : Recorded → Recorded → Type 0
Keeps old new = (new.game ≡ old.game) × ArePoints new.game new.events

-- whether the person has claimed the point of this number, where the program plays the side
abbrev pub is_reply : Side → Game → List Event → ℕ → Bool
is_reply side g events n =
    not (is_same_side (position_after g (take n (standing events))).turn side)

-- of so many points this is the number of the person's last one
abbrev pub IsLastBelow : Side → Game → List Event → ℕ → Option ℕ → Type 0
IsLastBelow side g events count None = (n : ℕ) → n < count → is_reply side g events n ≡ false
IsLastBelow side g events count (Some last) = (last < count) × (is_reply side g events last ≡ true)
    × ((n : ℕ) → last < n → n < count → is_reply side g events n ≡ false)

-- of all points
abbrev pub IsLast : Side → Game → List Event → Option ℕ → Type 0
IsLast side g events last = IsLastBelow side g events (length (standing events)) last
