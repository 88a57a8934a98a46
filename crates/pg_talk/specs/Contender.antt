-- What is seen of a player of one side, and what it does.
use Rattle.std.specs.Prelude.{◌≡◌, ◌⊎◌, ◌<◌, ℕ, true, false, Option, Some, None, Ok}
use Rattle.pg_talk.specs.Prelude.{other, Goal, Side, Game, Position, is_free, judged_by, moved}
use Rattle.pg_talk.specs.Prelude.{Play}
use Rattle.pg_talk.specs.Contest.{Contest, contest_of}

-- the contest, the side that is played, the goal that it reaches, and the position
pub record Contender : Type 0 where
  pub contest : Contest
  pub side : Side
  pub goal : Goal
  pub position : Position

-- the same at another position
abbrev pub at : Contender → Position → Contender
at c p = record c { position = p }

-- the side takes the point v by the rules in its turn, while the game goes on
pub record MakesMove (before now : Contender) (v : ℕ) : Type 0 where
  pub going : before.contest.rules.over before.position ≡ false
  pub turn : before.position.turn ≡ before.side
  pub within : v < before.contest.rules.points
  pub free : is_free before.position v ≡ true
  pub next : now ≡ at before (moved before.contest.rules before.position v)

-- the player owes no move: the game is over or the other side is to move
abbrev pub Waits : Contender → Type 0
Waits c = (c.contest.rules.over c.position ≡ true) ⊎ (c.position.turn ≡ other c.side)

-- the other side takes v, which is legal
pub record TakesReply (before now : Contender) (v : ℕ) : Type 0 where
  pub legal : judged_by before.contest.rules before.position v ≡ Ok now.position
  pub same : now ≡ at before now.position

-- what the player does where it may owe a move: none where it owes none, and then nothing changes
abbrev pub Moves : Contender → Contender → Option ℕ → Type 0
Moves before now None = Waits before × (now ≡ before)
Moves before now (Some v) = MakesMove before now v

-- what the player does after a legal reply: it takes the reply, and then makes its move where it
-- owes one
abbrev pub Answers : Contender → Contender → ℕ → Option ℕ → Type 0
Answers before now v None = TakesReply before now v × Waits now
Answers before now v (Some w) =
    (between : Contender) × TakesReply before between v × MakesMove between now w

-- ---- players of a game by a claim of a certificate

-- a side of a game from a position
abbrev pub contender_of : Game → Side → Goal → Position → Contender
contender_of g side goal p = record {
  contest = contest_of g;
  side = side;
  goal = goal;
  position = p;
}

-- what is seen of a player by a claim
abbrev pub player_of : Play → Contender
player_of play = contender_of play.game play.claim.side play.claim.goal play.position
