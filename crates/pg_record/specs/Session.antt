-- What a session is seen as, and what it keeps.
use Rattle.std.specs.Prelude.{◌≡◌, ◌≢◌, ℕ, ◌≤◌, List, [], ◌∷◌, ◌++◌, map, Result, Ok, Err}
use Rattle.pg_record.specs.Prelude.{Switching, Game, Position, Illegal, start, IsMadeForGame, Stand}
use Rattle.pg_record.specs.Prelude.{View}
use Rattle.pg_record.specs.declared.event.Event.{Event}
use Rattle.pg_record.specs.declared.event.TheConstants.{MAX_EVENTS}
use Rattle.pg_record.specs.declared.table.Table.{Table}
use Rattle.pg_record.specs.declared.table.Table.TheVariants as table
use Rattle.pg_record.specs.Replay.{positions_along, standing, IsRecord}

-- a session: its game, and its events in order
pub record Recorded : Type 0 where
  pub game : Game
  pub events : List Event

-- whether a move is refused, and why
abbrev pub refusal_of : Result Position Illegal → Result (Unit {0}) Illegal
refusal_of (Ok p) = Ok tt
refusal_of (Err why) = Err why

-- the positions of a board, from the one before all plays to the one that it stands at
abbrev pub positions_of : View → List Position
positions_of b = map (λ (s : Stand). s.position) (b.earlier ++ b.stand ∷ [])

-- on the board of the game these moves were played, one after the other
pub record IsBoardAfter (g : Game) (moves : List ℕ) (b : View) : Type 0 where
  pub lines : g.kind ≢ Switching
  pub same : b.game ≡ g
  pub played : positions_of b ≡ positions_along g (start g) moves

-- what the moves are played on fits them: a board after them, or a judge that is made for the
-- switching game
abbrev pub IsTableAfter : Game → List ℕ → Table → Type 0
IsTableAfter g moves (table.Lines b) = IsBoardAfter g moves b
IsTableAfter g moves (table.Graph room) = IsMadeForGame room g

-- what a session keeps: its events may follow one another, its moves are those that stand, and
-- there is room for all events
pub record IsSession (g : Game) (events : List Event) (moves : List ℕ) (t : Table)
    (event_room move_room : ℕ) : Type 0 where
  pub legal : IsRecord g events
  pub same : moves ≡ standing events
  pub fits : IsTableAfter g (standing events) t
  pub events_fit : MAX_EVENTS ≤ event_room
  pub moves_fit : MAX_EVENTS ≤ move_room
