-- What is seen of a player of a connectivity game, and what it does.
use Rattle.std.specs.Prelude.{◌≡◌, ◌⊎◌, ℕ, ◌<◌, Bool, true, false, ◌&&◌, Option, Some, None, Ok}
use Rattle.std.specs.Prelude.{find}
use Rattle.pg_span.specs.Prelude.{other, is_same_side, Side, edge_count, Position, is_free}
use Rattle.pg_span.specs.Prelude.{judged_by, moved, IsOnPlan}
use Rattle.pg_span.specs.declared.cert.SpanBody.{SpanBody}
use Rattle.pg_span.specs.declared.cert.SpanCert.{SpanCert}
use Rattle.pg_span.specs.declared.cert.SpanClaim.{SpanClaim}
use Rattle.pg_span.specs.declared.game.SpanGame.{SpanGame}
use Rattle.pg_span.specs.Answers.{span_move}
use Rattle.pg_span.specs.Game.{span_rules_of, marks_at}
use Rattle.pg_span.specs.Valid.{IsBodyAt}

-- the game, the side that is played, the position, and the plan: the trees or the parts that stand
pub record SpanPlay : Type 0 where
  pub game : SpanGame
  pub side : Side
  pub position : Position
  pub plan : SpanBody

-- whether the claim is the side's, from the turn
abbrev pub is_span_claim_of : Side → Side → SpanClaim → Bool
is_span_claim_of side turn claim = is_same_side claim.side side && is_same_side claim.turn turn

-- the claim that a side plays: the first of that side and the game's turn
unfoldable pub chosen_span_claim : SpanGame → SpanCert → Side → Option SpanClaim
chosen_span_claim g cert side = find (is_span_claim_of side g.turn) cert.claims

-- the game's marks and turn
abbrev pub span_start : SpanGame → Position
span_start g = marks_at g g.turn

-- ---- moves and replies

-- the player makes its own move by its plan after the last reply, which is legal
pub record MakesSpanMove (before now : SpanPlay) (last : Option ℕ) (v : ℕ) : Type 0 where
  pub going : (span_rules_of before.game).over before.position ≡ false
  pub turn : before.position.turn ≡ before.side
  pub within : v < edge_count before.game.graph
  pub free : is_free before.position v ≡ true
  pub own : span_move before.game.graph before.position before.plan last
      ≡ record { edge = v; plan = now.plan }
  pub position : now.position ≡ moved (span_rules_of before.game) before.position v
  pub same_game : now.game ≡ before.game
  pub same_side : now.side ≡ before.side

-- the player owes no move: the game is over or the other side is to move
abbrev pub SpanWaits : SpanPlay → Type 0
SpanWaits play =
    ((span_rules_of play.game).over play.position ≡ true) ⊎ (play.position.turn ≡ other play.side)

-- the other side takes v, which is legal, and the plan waits for the answer
pub record TakesSpanReply (before now : SpanPlay) (v : ℕ) : Type 0 where
  pub legal : judged_by (span_rules_of before.game) before.position v ≡ Ok now.position
  pub same_plan : now.plan ≡ before.plan
  pub same_game : now.game ≡ before.game
  pub same_side : now.side ≡ before.side

-- what the player does where it may owe a move: none where it owes none, and then nothing changes
abbrev pub MovesInSpan : SpanPlay → SpanPlay → Option ℕ → Type 0
MovesInSpan before now None = SpanWaits before × (now ≡ before)
MovesInSpan before now (Some v) = MakesSpanMove before now None v

-- what the player does after a legal reply: it takes the reply, and then makes its move where the
-- game isn't over
abbrev pub AnswersInSpan : SpanPlay → SpanPlay → ℕ → Option ℕ → Type 0
AnswersInSpan before now v None =
    TakesSpanReply before now v × ((span_rules_of now.game).over now.position ≡ true)
AnswersInSpan before now v (Some w) =
    (between : SpanPlay) × TakesSpanReply before between v × MakesSpanMove between now (Some v) w

-- ---- what a player keeps

-- the position is reached by a legal play, the side forces its win from it, and while the game goes
-- on the plan holds
abbrev pub IsOnSpanPlan : SpanGame → Side → Position → SpanBody → Type 0
IsOnSpanPlan g side p plan =
    IsOnPlan (span_rules_of g) (span_start g) (λ q. IsBodyAt g q side plan) side p
