-- What keeps a player going: facts on its claim, its position and where it stands, which every move
-- and every reply keep.
use Rattle.std.specs.Prelude.{◌≡◌, ◌⊎◌, ℕ, ◌<◌, true, false, List, [], ◌∷◌, map, Option, Some, None}
use Rattle.std.specs.Prelude.{if◌then◌else◌}
use Rattle.pg_player.specs.Prelude.{other, Kind, MakerBreaker, MakerMaker, AvoiderEnforcer, Pair}
use Rattle.pg_player.specs.Prelude.{Score, Side, Room, Game, Position, is_free, point_count}
use Rattle.pg_player.specs.Prelude.{free_points, is_over, outcome, after, start, IsPosition}
use Rattle.pg_player.specs.Prelude.{IsMadeForGame, HasJoiner, IsReachedBy, rules_of, Forces}
use Rattle.pg_player.specs.Prelude.{PotentialHolds, AvoiderHolds, threatens, has_threat}
use Rattle.pg_player.specs.Prelude.{LeadsToLine, TreesHold, CutsHold, Claim, Node, Body, Over, Move}
use Rattle.pg_player.specs.Prelude.{All, Pairs, Potential, Trees, Cuts, Threat, Weaker, Reply}
use Rattle.pg_player.specs.Prelude.{IsClaim, is_allowed, IsNodeOf, FollowsMove, PotentialFits}
use Rattle.pg_player.specs.Prelude.{with_e_named, IsValidClaim, Standing, own_move, ArePairsOf}
use Rattle.pg_player.specs.Prelude.{RestHolds, HeldBefore, HeldUntil}
use Rattle.std.specs.List.{All as Each}
use Rattle.pg_player.specs.Beside.{IsBeside}

-- ---- what keeps a player going at its body while the game goes on

-- the rest of the pairs held before the last reply, or holds where no reply came, or holds in
-- Maker-Breaker
pub record PairsReady (g : Game) (side : Side) (p : Position) (pairs : List Pair)
    (last : Option ℕ) : Type 0 where
  pub are : ArePairsOf g pairs
  pub state : HeldBefore g p side pairs last
      ⊎ (((last ≡ None) × RestHolds g p side pairs)
      ⊎ ((g.kind ≡ MakerBreaker) × RestHolds g p side pairs))

pub record PairsWaiting (g : Game) (side : Side) (p : Position) (pairs : List Pair) : Type 0 where
  pub are : ArePairsOf g pairs
  pub holds : RestHolds g p side pairs

-- Avoider's potential holds, or it holds after every point that Enforcer may take
abbrev pub AvoiderWaiting : Game → Position → Type 0
AvoiderWaiting g p = AvoiderHolds g p
    ⊎ ((u : ℕ) → u < point_count g → is_free p u ≡ true → AvoiderHolds g (after g p u))

-- the potential of the kind with the other side to move
abbrev pub PotentialWaiting : Kind → Game → Position → Side → Type 0
PotentialWaiting AvoiderEnforcer g p side = AvoiderWaiting g p
PotentialWaiting _ g p side = PotentialHolds g p side

-- the point is free, and its node has the position after it
pub record MayMove (g : Game) (nodes : List Node) (p : Position) (point child : ℕ) : Type 0 where
  pub within : point < point_count g
  pub free : is_free p point ≡ true
  pub next : IsNodeOf nodes child (after g p point)

-- all free points are named, each with a node that has the position after it
pub record NamesAll (g : Game) (nodes : List Node) (p : Position)
    (replies : List Reply) : Type 0 where
  pub exact : map (λ r. r.point) replies ≡ free_points g p
  pub next : Each (λ r. FollowsMove g nodes p r.point r.child) replies

-- after an attack the other side must take the point, and what follows leads to a line
abbrev pub MustReply : Game → Position → Side → List ℕ → Type 0
MustReply g p side [] = ⊥
MustReply g p side (u ∷ others) = (threatens g p side u ≡ true)
    × (g.kind ≡ MakerMaker → has_threat g p (other side) ≡ false)
    × LeadsToLine g (after g p u) side others

-- the player is to move at the body
abbrev pub Ready : Game → Claim → Position → Body → Option ℕ → Type 0
Ready g c p Over last = ⊥
Ready g c p (Move point child) last = MayMove g c.nodes p point child
Ready g c p (All replies) last = ⊥
Ready g c p (Pairs pairs) last = PairsReady g c.side p pairs last
Ready g c p Potential last = PotentialFits g.kind g p c.side
Ready g c p (Trees with_e first second) last =
    HeldUntil g p (λ q. TreesHold g q (with_e_named g with_e first) second) last
Ready g c p (Cuts with_e first second) last =
    HeldUntil g p (λ q. CutsHold g q (with_e_named g with_e first) second) last
Ready g c p (Threat points) last = LeadsToLine g p c.side points
Ready g c p (Weaker child) last = ⊥

-- the other side is to move at the body
abbrev pub Waiting : Game → Claim → Position → Body → Type 0
Waiting g c p Over = ⊥
Waiting g c p (Move point child) = ⊥
Waiting g c p (All replies) = NamesAll g c.nodes p replies
Waiting g c p (Pairs pairs) = PairsWaiting g c.side p pairs
Waiting g c p Potential = PotentialWaiting g.kind g p c.side
Waiting g c p (Trees with_e first second) = TreesHold g p (with_e_named g with_e first) second
Waiting g c p (Cuts with_e first second) = CutsHold g p (with_e_named g with_e first) second
Waiting g c p (Threat points) = MustReply g p c.side points
Waiting g c p (Weaker child) = ⊥

-- the body is allowed, and while the imagined game goes on it keeps what it needs, whoever is to
-- move
pub record Stands (g : Game) (c : Claim) (s : Standing) : Type 0 where
  pub allowed : is_allowed g.kind g.bias c.side c.goal s.body ≡ true
  pub ready : is_over g s.imagined ≡ false
      → s.imagined.turn ≡ c.side
      → Ready g c s.imagined s.body s.last
  pub waiting : is_over g s.imagined ≡ false
      → s.imagined.turn ≡ other c.side
      → Waiting g c s.imagined s.body

-- ---- the whole

-- the position is that after a legal play from the game's marks
abbrev pub IsReached : Game → Position → Type 0
IsReached g p = IsReachedBy (rules_of g) (start g) p

-- a claim within the limits whose nodes are all sound
pub record IsSoundClaim (g : Game) (c : Claim) : Type 0 where
  pub limits : ∥ IsClaim c ∥₁
  pub valid : IsValidClaim g c

-- the claim is sound, the imagined position is one of the game, the claimer forces its goal from
-- it, and the standing fits it
pub record InPlay (g : Game) (c : Claim) (s : Standing) : Type 0 where
  pub sound : IsSoundClaim g c
  pub position : IsPosition g s.imagined
  pub forced : Forces g s.imagined c.side c.goal
  pub stands : Stands g c s

-- where the player stands it is in play, and what it imagines is beside p
pub record GoesOn (g : Game) (c : Claim) (p : Position) (s : Standing) : Type 0 where
  pub playing : InPlay g c s
  pub beside : IsBeside g c.side s.imagined p

-- what a player keeps: it goes on at the true position, which is reached by a legal play; it knows
-- the outcome, and its judge and its joiner are made for the game
pub record IsPlaying (g : Game) (c : Claim) (p : Position) (s : Standing) (ending : Option Score)
    (judge : Room) (joiner : Option Room) : Type 0 where
  pub on : GoesOn g c p s
  pub reached : IsReached g p
  pub known : ending ≡ (if is_over g p then Some (outcome g p) else None)
  pub judged : IsMadeForGame judge g
  pub joined : HasJoiner joiner g

-- an imagined move that keeps the player going: it is the own move, legal in the imagined position,
-- and the player goes on after it
pub record KeepsUp (g : Game) (c : Claim) (s : Standing) (v : ℕ) (next : Standing) : Type 0 where
  pub own : own_move g c.nodes c.side s ≡ Some (record { point = v; next = Some next })
  pub within : v < point_count g
  pub free : is_free s.imagined v ≡ true
  pub on : GoesOn g c (after g s.imagined v) next
