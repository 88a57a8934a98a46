-- What a game of the program keeps.
use Rattle.std.specs.Prelude.{◌≡◌, ℕ, ◌<◌, List, ◌++◌, length, map, true, is_ok}
use Rattle.std.specs.List.{All}
use Rattle.pg_opponent.specs.Prelude.{Claim, Event, Game, IsRecord, Waits, judged_move}
use Rattle.pg_opponent.specs.Prelude.{point_count, standing}
use Rattle.pg_opponent.specs.Sitting.{Makes, Sitting, event_of, place}
use Rattle.pg_opponent.specs.declared.seat.OwnPoint.{OwnPoint}

-- the events are those of a session, and none of them takes a point back
pub record IsLegal (g : Game) (events : List Event) : Type 0 where
  pub allowed : IsRecord g events
  pub stands : length (standing events) ≡ length events

-- the point may be played
abbrev pub MayPlay : Game → List Event → ℕ → Type 0
MayPlay g events v = is_ok (judged_move g (place g events) v) ≡ true

-- the points are the game's
abbrev pub AreWithin : Game → List ℕ → Type 0
AreWithin g points = All (λ v. v < point_count g) points

abbrev pub AreOwnWithin : Game → List OwnPoint → Type 0
AreOwnWithin g own = All (λ (made : OwnPoint). made.point < point_count g) own

-- the player plays this game by this claim, the events are what it has played, and its points and
-- the replies are the game's
pub record IsOn (g : Game) (c : Claim) (s : Sitting) : Type 0 where
  pub same_game : s.player.game ≡ g
  pub same_claim : s.player.claim ≡ c
  pub legal : IsLegal g s.events
  pub position : s.player.position ≡ place g s.events
  pub within : AreOwnWithin g s.own
  pub replies : AreWithin g s.replies

-- and the program owes no move
pub record IsFit (g : Game) (c : Claim) (s : Sitting) : Type 0 where
  pub on : IsOn g c s
  pub waits : Waits s.player

-- the player has made further moves
pub record Led (s t : Sitting) : Type 0 where
  pub own : List OwnPoint
  pub makes : Makes s.player own t.player
  pub more : t.own ≡ s.own ++ own
  pub events : t.events ≡ s.events ++ map event_of own
  pub replies : t.replies ≡ s.replies

-- all that it owes
abbrev pub Went : Sitting → Sitting → Type 0
Went s t = Led s t × Waits t.player
