-- What the events of a session leave standing, and which event may follow others.
use Rattle.std.specs.Prelude.{◌≡◌, ℕ, ◌-◌, ◌<◌, ◌≤◌, true, is_ok, List, [], ◌∷◌, ◌++◌, length, take}
use Rattle.pg_record.specs.Prelude.{Game, Position, start, after, judged_move, played}
use Rattle.pg_record.specs.declared.event.Event.{Event}
use Rattle.pg_record.specs.declared.event.Event.TheVariants.{Play, Back}
use Rattle.pg_record.specs.declared.event.TheConstants.{MAX_EVENTS}

-- ---- what stands

-- the standing moves after an event: a move is added, and `back` takes the last one back
abbrev pub with_event : List ℕ → Event → List ℕ
with_event moves (Play v) = moves ++ v ∷ []
with_event moves Back = take (length moves - 1) moves

-- the standing moves after further events
abbrev pub standing_after : List ℕ → List Event → List ℕ
standing_after moves [] = moves
standing_after moves (e ∷ es) = standing_after (with_event moves e) es

-- the moves that aren't taken back, oldest first
unfoldable pub standing : List Event → List ℕ
standing events = standing_after [] events

-- the position after these moves, from the game's position
abbrev pub position_after : Game → List ℕ → Position
position_after g moves = played g (start g) moves

-- what events come to: the standing moves, and the position after them
pub record Replay : Type 0 where
  pub moves : List ℕ
  pub position : Position

abbrev pub replay : Game → List Event → Replay
replay g events = record { moves = standing events; position = position_after g (standing events) }

-- the position, and those after each of the moves in turn
abbrev pub positions_along : Game → Position → List ℕ → List Position
positions_along g p [] = p ∷ []
positions_along g p (v ∷ others) = p ∷ positions_along g (after g p v) others

-- ---- which events may stand

-- an event may follow where these moves stand: a legal move, or `back` where there is a move to
-- take back
abbrev pub MayFollow : Game → List ℕ → Event → Type 0
MayFollow g moves (Play v) = is_ok (judged_move g (position_after g moves) v) ≡ true
MayFollow g moves Back = 0 < length moves

-- each event may follow those before it
abbrev pub AreAllowed : Game → List ℕ → List Event → Type 0
AreAllowed g moves [] = Unit {0}
AreAllowed g moves (e ∷ es) = MayFollow g moves e × AreAllowed g (with_event moves e) es

-- the events of a session of the game
pub record IsRecord (g : Game) (events : List Event) : Type 0 where
  pub allowed : AreAllowed g [] events
  pub few : length events ≤ MAX_EVENTS
