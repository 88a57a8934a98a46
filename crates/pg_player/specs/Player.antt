-- What is seen of a player: the game, the claim that it plays, the position, and where it stands,
-- with the position that it imagines.
use Rattle.std.specs.Prelude.{◌≡◌, ◌⊎◌, ℕ, ◌<◌, Bool, true, false, ◌&&◌, Option, Some, None, Ok}
use Rattle.std.specs.Prelude.{find}
use Rattle.pg_player.specs.Prelude.{option_or, other, is_same_side, Goal, Win, Side, Game, Position}
use Rattle.pg_player.specs.Prelude.{is_free, point_count, is_over, after, judged_move, Cert, Claim}
use Rattle.pg_player.specs.Prelude.{Standing, OwnMove, own_move, played_point, replied}
use Rattle.pg_base.specs.declared.goal.Goal.TheVariants.{Draw as AtLeastDraw}

-- the game, the claim that is played, the true position, and where the player stands
pub record Play : Type 0 where
  pub game : Game
  pub claim : Claim
  pub position : Position
  pub standing : Standing

-- ---- the claim that is played

-- whether the goal is to win
abbrev pub is_win : Goal → Bool
is_win Win = true
is_win AtLeastDraw = false

-- whether the claim is the side's, from the turn
abbrev pub is_claim_of : Side → Side → Claim → Bool
is_claim_of side turn claim = is_same_side claim.side side && is_same_side claim.turn turn

-- whether it is moreover a claim to win
abbrev pub is_win_of : Side → Side → Claim → Bool
is_win_of side turn claim = is_claim_of side turn claim && is_win claim.goal

-- the claim that a side plays: the first of that side and the game's turn with goal win, else the
-- first of that side and turn
unfoldable pub chosen_claim : Game → Cert → Side → Option Claim
chosen_claim g cert side = option_or (find (is_win_of side g.turn) cert.claims)
    (find (is_claim_of side g.turn) cert.claims)

-- ---- moves and replies

-- the player imagines its own move by the rule of its standing, and plays in the true position the
-- point v that stands for it, which is legal
pub record MakesMove (before now : Play) (v : ℕ) : Type 0 where
  pub going : is_over before.game before.position ≡ false
  pub turn : before.position.turn ≡ before.claim.side
  pub within : v < point_count before.game
  pub free : is_free before.position v ≡ true
  pub imagined : OwnMove
  pub own : own_move before.game before.claim.nodes before.claim.side before.standing
      ≡ Some imagined
  pub next : imagined.next ≡ Some now.standing
  pub chosen : v ≡ played_point before.game before.position imagined
  pub position : now.position ≡ after before.game before.position v
  pub same_game : now.game ≡ before.game
  pub same_claim : now.claim ≡ before.claim

-- the player owes no move: the game is over or the other side is to move
abbrev pub Waits : Play → Type 0
Waits play = (is_over play.game play.position ≡ true) ⊎ (play.position.turn ≡ other play.claim.side)

-- the other side takes v, which is legal
pub record TakesReply (before now : Play) (v : ℕ) : Type 0 where
  pub legal : judged_move before.game before.position v ≡ Ok now.position
  pub replied : replied before.game before.claim.nodes before.standing v ≡ Some now.standing
  pub same_game : now.game ≡ before.game
  pub same_claim : now.claim ≡ before.claim

-- what the player does where it may owe a move: none where it owes none, and then nothing changes
abbrev pub Moves : Play → Play → Option ℕ → Type 0
Moves before now None = Waits before × (now ≡ before)
Moves before now (Some v) = MakesMove before now v

-- what the player does after a legal reply: it takes the reply, and then makes its move where it
-- owes one
abbrev pub Answers : Play → Play → ℕ → Option ℕ → Type 0
Answers before now v None = TakesReply before now v × Waits now
Answers before now v (Some w) =
    (between : Play) × TakesReply before between v × MakesMove between now w
