-- What is seen of a player of a game on vectors, and what it does.
use Rattle.std.specs.Prelude.{◌≡◌, ◌⊎◌, ℕ, ◌<◌, Bool, true, false, ◌&&◌, length, Option, Some}
use Rattle.std.specs.Prelude.{None, Ok, find, slice_get}
use Rattle.pg_vec_player.specs.Prelude.{empty, other, is_same_side, Score, Side}
use Rattle.pg_vec_player.specs.Prelude.{Position, is_free, ending_by, judged_by, moved, IsOnPlan}
use Rattle.pg_vec_player.specs.Prelude.{IsDue, AreSpanSets, Cert, Claim, Body, Trees, Cuts, Node}
use Rattle.pg_vec_player.specs.Prelude.{VecGame, VecPlan}
use Rattle.pg_vec_player.specs.Prelude.{vec_move, with_e_named, with_target, vector_rules, at_turn}
use Rattle.pg_vec_player.specs.Prelude.{vector_spans}
use Rattle.pg_vec_player.specs.declared.judge.VecJudge.{VecJudge}
use Rattle.pg_vec_player.specs.Judge.{IsVecJudgeOf}

-- the game, the side that is played, the position, and the plan: X's trees or Y's cuts
pub record VecPlay : Type 0 where
  pub game : VecGame
  pub side : Side
  pub position : Position
  pub plan : VecPlan

-- ---- the claim that is played

-- whether the claim is the side's, from the turn
abbrev pub is_vec_claim_of : Side → Side → Claim → Bool
is_vec_claim_of side turn claim = is_same_side claim.side side && is_same_side claim.turn turn

-- the claim that a side plays: the first of that side and the game's turn
unfoldable pub chosen_vec_claim : VecGame → Cert → Side → Option Claim
chosen_vec_claim g cert side = find (is_vec_claim_of side g.turn) cert.claims

-- the sets of a body, and none where it has none
abbrev pub plan_of_body : VecGame → Body → VecPlan
plan_of_body g (Trees with_e first second) =
    record { first = with_e_named g with_e first; second = second }
plan_of_body g (Cuts with_e first second) =
    record { first = with_e_named g with_e first; second = second }
plan_of_body g _ = record { first = empty; second = empty }

-- the sets of a claim's first node
abbrev pub plan_of_node : VecGame → Option Node → VecPlan
plan_of_node g (Some node) = plan_of_body g node.body
plan_of_node g None = record { first = empty; second = empty }

abbrev pub plan_of_claim : VecGame → Claim → VecPlan
plan_of_claim g claim = plan_of_node g (slice_get claim.nodes 0)

-- the game's marks and turn
abbrev pub vec_start : VecGame → Position
vec_start g = at_turn g g.turn

-- ---- moves and replies

-- the player makes its own move by its plan after the last reply, which is legal
pub record MakesVecMove (before now : VecPlay) (last : Option ℕ) (v : ℕ) : Type 0 where
  pub going : (vector_rules before.game).over before.position ≡ false
  pub turn : before.position.turn ≡ before.side
  pub within : v < length before.game.vectors
  pub free : is_free before.position v ≡ true
  pub own : vec_move (vector_spans (with_target before.game)) (length before.game.vectors)
      before.side before.position before.plan last ≡ record { vector = v; plan = now.plan }
  pub position : now.position ≡ moved (vector_rules before.game) before.position v
  pub same_game : now.game ≡ before.game
  pub same_side : now.side ≡ before.side

-- the player owes no move: the game is over or the other side is to move
abbrev pub VecWaits : VecPlay → Type 0
VecWaits play =
    ((vector_rules play.game).over play.position ≡ true) ⊎ (play.position.turn ≡ other play.side)

-- the other side takes v, which is legal, and the plan waits for the answer
pub record TakesVecReply (before now : VecPlay) (v : ℕ) : Type 0 where
  pub legal : judged_by (vector_rules before.game) before.position v ≡ Ok now.position
  pub same_plan : now.plan ≡ before.plan
  pub same_game : now.game ≡ before.game
  pub same_side : now.side ≡ before.side

-- what the player does where it may owe a move: none where it owes none, and then nothing changes
abbrev pub MovesOnVectors : VecPlay → VecPlay → Option ℕ → Type 0
MovesOnVectors before now None = VecWaits before × (now ≡ before)
MovesOnVectors before now (Some v) = MakesVecMove before now None v

-- what the player does after a legal reply: it takes the reply, and then makes its move where the
-- game isn't over
abbrev pub AnswersOnVectors : VecPlay → VecPlay → ℕ → Option ℕ → Type 0
AnswersOnVectors before now v None =
    TakesVecReply before now v × ((vector_rules now.game).over now.position ≡ true)
AnswersOnVectors before now v (Some w) =
    (between : VecPlay) × TakesVecReply before between v × MakesVecMove between now (Some v) w

-- ---- what a player keeps

-- the plan is X's trees or Y's cuts at the position
abbrev pub VecPlanHolds : VecGame → Side → Position → VecPlan → Type 0
VecPlanHolds g side p plan = AreSpanSets (vector_spans (with_target g)) (length g.vectors) side p
    plan.first plan.second

-- the position is reached by a legal play, the side forces its win from it, and while the game goes
-- on the plan holds
abbrev pub IsOnVecPlan : VecGame → Side → Position → VecPlan → Type 0
IsOnVecPlan g side p plan =
    IsOnPlan (vector_rules g) (vec_start g) (λ q. VecPlanHolds g side q plan) side p

-- it is on its plan, knows the outcome, and has a judge of the game
pub record IsVecPlaying (g : VecGame) (side : Side) (p : Position) (plan : VecPlan)
    (ending : Option Score) (judge : VecJudge) : Type 0 where
  pub on : IsOnVecPlan g side p plan
  pub known : ending ≡ ending_by (vector_rules g) p
  pub judged : IsVecJudgeOf judge g

-- the side is to move in a game that goes on
abbrev pub IsVecDue : VecGame → Side → Position → VecPlan → Option ℕ → Type 0
IsVecDue g side p plan last =
    IsDue (vector_rules g) (vec_start g) (λ q. VecPlanHolds g side q plan) side p last
