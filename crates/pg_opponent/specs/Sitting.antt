-- THE GAME OF THE PROGRAM AGAINST A PERSON: which points the program claims, by which rules, and
-- what comes of the person's replies.
use Rattle.std.specs.Prelude.{◌≡◌, ℕ, ◌-◌, List, [], ◌∷◌, ◌++◌, length, map, Option, Some}
use Rattle.std.specs.Prelude.{None, Result, Ok, Err}
use Rattle.pg_opponent.specs.Prelude.{Claim, Event, Game, Illegal, MakesMove, Play, Player}
use Rattle.pg_opponent.specs.Prelude.{Position, TakesReply, Waits, arrives, judged_move, replay}
use Rattle.pg_opponent.specs.Prelude.{rule_of, start}
use Rattle.pg_opponent.specs.declared.seat.OwnPoint.{OwnPoint}
use Rattle.pg_opponent.specs.declared.seat.Seat.{Seat}

-- where the program's player stands, what both sides have played, the program's points since the
-- last reply with their rules, and the replies
pub record Sitting : Type 0 where
  pub player : Player
  pub events : List Event
  pub own : List OwnPoint
  pub replies : List ℕ

-- the position after these events
abbrev pub place : Game → List Event → Position
place g events = (replay g events).position

-- ---- the program's moves

-- the player claims the point, which it chooses by the rule of the body at which it stands
pub record MakesBy (a b : Player) (made : OwnPoint) : Type 0 where
  pub makes : MakesMove a b made.point
  pub rule : made.rule ≡ rule_of a.standing.body

-- one move, if the player owes one
abbrev pub MovesBy : Player → Player → Option OwnPoint → Type 0
MovesBy a b None = Waits a × (b ≡ a)
MovesBy a b (Some made) = MakesBy a b made

-- the player makes these moves one after the other
abbrev pub Makes : Player → List OwnPoint → Player → Type 0
Makes a [] b = b ≡ a
Makes a (made ∷ others) b = (m : Player) × MakesBy a m made × Makes m others b

-- these are all the moves that it owes
abbrev pub Settles : Player → List OwnPoint → Player → Type 0
Settles a own b = Makes a own b × Waits b

-- a point that the program claims, as an event
abbrev pub event_of : OwnPoint → Event
event_of made = Play made.point

-- ---- the beginning

-- a player of the claim at the game's position, which comes to the claim's root
pub record Opens (g : Game) (c : Claim) (a : Player) : Type 0 where
  pub same_game : a.game ≡ g
  pub same_claim : a.claim ≡ c
  pub position : a.position ≡ start g
  pub standing : arrives c.nodes (length c.nodes - 1) ≡ Some a.standing

-- the player has made the moves that it owes at the game's position
pub record Begins (g : Game) (c : Claim) (s : Sitting) : Type 0 where
  pub first : Player
  pub opens : Opens g c first
  pub settles : Settles first s.own s.player
  pub events : s.events ≡ map event_of s.own
  pub replies : s.replies ≡ []

-- ---- replies

-- a legal reply is taken, and the player makes the moves that it then owes
pub record Answered (s : Sitting) (v : ℕ) (t : Sitting) : Type 0 where
  pub between : Player
  pub takes : TakesReply s.player between v
  pub settles : Settles between t.own t.player
  pub events : t.events ≡ s.events ++ Play v ∷ map event_of t.own
  pub replies : t.replies ≡ s.replies ++ v ∷ []

-- a reply that isn't legal changes nothing
abbrev pub IsAnswered : Sitting → ℕ → Sitting → Result (Unit {0}) Illegal → Type 0
IsAnswered s v t (Ok _) = Answered s v t
IsAnswered s v t (Err why) =
    (judged_move s.player.game s.player.position v ≡ Err why) × (t ≡ s)

-- these replies, one after the other
abbrev pub Comes : Sitting → List ℕ → Sitting → Type 0
Comes s [] t = t ≡ s
Comes s (v ∷ others) t = (m : Sitting) × (found : Result (Unit {0}) Illegal)
    × IsAnswered s v m found
    × Comes m others t

-- what comes of these replies from the game's position on
abbrev pub IsAfter : Game → Claim → List ℕ → Sitting → Type 0
IsAfter g c replies t = (s : Sitting) × Begins g c s × Comes s replies t

-- ---- what the code keeps

abbrev pub sitting_of : Seat → Sitting
sitting_of seat = record {
  player = seat.player;
  events = seat.session.events;
  own = seat.own.items;
  replies = seat.replies.items;
}
