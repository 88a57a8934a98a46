-- When a node is faulty, and when a certificate is valid for a game.
use Rattle.std.specs.Prelude.{◌≡◌, ℕ, ◌+◌, ◌<◌, ◌≤◌, Bool, true, false, ◌&&◌, ◌==◌, List, length}
use Rattle.std.specs.Prelude.{map, slice_get, Some, if◌then◌else◌}
use Rattle.pg_cert.specs.Prelude.{FinSet, insert, nat_cmp, AreBelow, other, Kind, MakerBreaker}
use Rattle.pg_cert.specs.Prelude.{MakerMaker, AvoiderEnforcer, Switching, Side, X, Y, Game}
use Rattle.pg_cert.specs.Prelude.{Position, point_count, bias_of, free_points, is_over, outcome}
use Rattle.pg_cert.specs.Prelude.{after, with_turn, PairsHold, PotentialHolds, AvoiderHolds}
use Rattle.pg_cert.specs.Prelude.{TreesHold, CutsHold, IsNoWorse}
use Rattle.std.specs.List.{All as Each}
use Rattle.pg_base.specs.declared.goal.Goal.{Goal}
use Rattle.pg_base.specs.declared.goal.Goal.TheVariants.{Win, Draw as AtLeastDraw}
use Rattle.pg_game.specs.Position.{is_free}
use Rattle.pg_game.specs.Value.{reaches}
use Rattle.pg_game.specs.Threat.{may_attack, IsThreatLine}
use Rattle.pg_cert.specs.Node.{position_of}
use Rattle.pg_cert.specs.NodeFault.{fault_number}
use Rattle.pg_cert.specs.declared.cert.Cert.{Cert}
use Rattle.pg_cert.specs.declared.cert.Claim.{Claim}
use Rattle.pg_cert.specs.declared.node.Node.{Node}
use Rattle.pg_cert.specs.declared.node.Body.{Body}
use Rattle.pg_cert.specs.declared.node.Body.TheVariants.{Over, Move, All, Pairs, Potential, Trees}
use Rattle.pg_cert.specs.declared.node.Body.TheVariants.{Cuts, Threat, Weaker}
use Rattle.pg_cert.specs.declared.node_fault.NodeFault.{NodeFault}
use Rattle.pg_cert.specs.declared.node_fault.NodeFault.TheVariants as faults

-- ---- which body is allowed where

-- whether a pairing or a potential can show this goal: Breaker's and Avoider's any, and in
-- Maker-Maker either side's draw
abbrev pub shows_defence : Kind → Side → Goal → Bool
shows_defence MakerBreaker X goal = false
shows_defence MakerBreaker Y goal = true
shows_defence MakerMaker side Win = false
shows_defence MakerMaker side AtLeastDraw = true
shows_defence AvoiderEnforcer X goal = true
shows_defence AvoiderEnforcer Y goal = false
shows_defence Switching side goal = false

-- whether the side is the one that plays by trees, or by cuts, in a game of the kind
abbrev pub shows_trees : Kind → Side → Bool
shows_trees Switching X = true
shows_trees _ _ = false

abbrev pub shows_cuts : Kind → Side → Bool
shows_cuts Switching Y = true
shows_cuts _ _ = false

-- whether pairs are a means where Y claims so many points a turn: in Avoider-Enforcer only where it
-- claims one
abbrev pub pairs_fit : Kind → ℕ → Bool
pairs_fit AvoiderEnforcer bias = bias == 1
pairs_fit _ bias = true

-- whether a weaker position serves as well in a game of the kind: in Maker-Breaker alone
abbrev pub allows_weaker : Kind → Bool
allows_weaker MakerBreaker = true
allows_weaker _ = false

-- whether the body is allowed for a side and its goal in a game of the kind with the bias
abbrev pub is_allowed : Kind → ℕ → Side → Goal → Body → Bool
is_allowed kind bias side goal Over = true
is_allowed kind bias side goal (Move point child) = true
is_allowed kind bias side goal (All replies) = true
is_allowed kind bias side goal (Pairs pairs) = shows_defence kind side goal && pairs_fit kind bias
is_allowed kind bias side goal Potential = shows_defence kind side goal
is_allowed kind bias side goal (Trees with_e first second) = shows_trees kind side
is_allowed kind bias side goal (Cuts with_e first second) = shows_cuts kind side
is_allowed kind bias side goal (Threat points) = may_attack kind side && bias == 1
is_allowed kind bias side goal (Weaker child) = allows_weaker kind

-- ---- what a node owes

-- all marks are points of the game, and the side to move claims no more than in a whole turn
pub record IsInGame (g : Game) (n : Node) : Type 0 where
  pub x : AreBelow n.x (point_count g)
  pub y : AreBelow n.y (point_count g)
  pub left : n.left ≤ bias_of g n.turn

-- every child that the body names has a number below k
abbrev pub NamesEarlier : ℕ → Body → Type 0
NamesEarlier k (Move point child) = child < k
NamesEarlier k (All replies) = Each (λ r. r.child < k) replies
NamesEarlier k (Weaker child) = child < k
NamesEarlier k _ = Unit {0}

-- the node of that number has the position
pub record IsNodeOf (nodes : List Node) (child : ℕ) (q : Position) : Type 0 where
  pub node : Node
  pub at : slice_get nodes child ≡ Some node
  pub position : position_of node ≡ q

-- where the point is free, the child has the position after it
pub record FollowsMove (g : Game) (nodes : List Node) (p : Position) (v child : ℕ) : Type 0 where
  pub leads : v < point_count g → is_free p v ≡ true → IsNodeOf nodes child (after g p v)

-- the children of the free points that the body names have the positions after them
abbrev pub FollowMoves : Game → List Node → Position → Body → Type 0
FollowMoves g nodes p (Move point child) = FollowsMove g nodes p point child
FollowMoves g nodes p (All replies) = Each (λ r. FollowsMove g nodes p r.point r.child) replies
FollowMoves g nodes p _ = Unit {0}

-- the claimer is to move at a move and at a threat line, the other side where all replies are named
abbrev pub HasTurn : Side → Position → Body → Type 0
HasTurn side p (Move point child) = p.turn ≡ side
HasTurn side p (Threat points) = p.turn ≡ side
HasTurn side p (All replies) = p.turn ≡ other side
HasTurn side p _ = Unit {0}

-- a move takes a free point of the game, and all replies are exactly the free points
abbrev pub TakesFree : Game → Position → Body → Type 0
TakesFree g p (Move point child) = (point < point_count g) × (is_free p point ≡ true)
TakesFree g p (All replies) = map (λ r. r.point) replies ≡ free_points g p
TakesFree g p _ = Unit {0}

-- a game that is said to be over is, with the goal reached, and a game that goes on isn't over
abbrev pub EndsRight : Game → Side → Goal → Position → Body → Type 0
EndsRight g side goal p Over = (is_over g p ≡ true) × (reaches side goal (outcome g p) ≡ true)
EndsRight g side goal p (Move point child) = is_over g p ≡ false
EndsRight g side goal p (All replies) = is_over g p ≡ false
EndsRight g side goal p _ = Unit {0}

-- Breaker's potential, or Avoider's, by the kind
abbrev pub PotentialFits : Kind → Game → Position → Side → Type 0
PotentialFits AvoiderEnforcer g p side = AvoiderHolds g p
PotentialFits _ g p side = PotentialHolds g p side

-- the first set of edges, with e where it is named
abbrev pub with_e_named : Game → Bool → FinSet nat_cmp → FinSet nat_cmp
with_e_named g with_e first = if with_e then insert first (point_count g) else first

-- both sets hold edges of the game only
abbrev pub AreEdgeSets : Game → FinSet nat_cmp → FinSet nat_cmp → Type 0
AreEdgeSets g first second = AreBelow first (point_count g) × AreBelow second (point_count g)

abbrev pub HasPairs : Game → Side → Position → Body → Type 0
HasPairs g side p (Pairs pairs) = PairsHold g p side pairs
HasPairs g side p _ = Unit {0}

abbrev pub HasPotential : Game → Side → Position → Body → Type 0
HasPotential g side p Potential = PotentialFits g.kind g p side
HasPotential g side p _ = Unit {0}

abbrev pub HasTrees : Game → Position → Body → Type 0
HasTrees g p (Trees with_e first second) =
    AreEdgeSets g first second × TreesHold g p (with_e_named g with_e first) second
HasTrees g p _ = Unit {0}

abbrev pub HasCuts : Game → Position → Body → Type 0
HasCuts g p (Cuts with_e first second) =
    AreEdgeSets g first second × CutsHold g p (with_e_named g with_e first) second
HasCuts g p _ = Unit {0}

abbrev pub HasThreat : Game → Side → Position → Body → Type 0
HasThreat g side p (Threat points) = IsThreatLine g p side points
HasThreat g side p _ = Unit {0}

-- the position is no worse for the side than that of the node with that number
pub record IsNoWorseThanNode (nodes : List Node) (side : Side) (p : Position)
    (child : ℕ) : Type 0 where
  pub node : Node
  pub at : slice_get nodes child ≡ Some node
  pub no_worse : IsNoWorse side (position_of node) p

abbrev pub HasWeaker : List Node → Side → Position → Body → Type 0
HasWeaker nodes side p (Weaker child) = IsNoWorseThanNode nodes side p child
HasWeaker nodes side p _ = Unit {0}

-- the claim's last node is the game's marks with the claim's turn
abbrev pub IsRoot : Game → Claim → ℕ → Node → Type 0
IsRoot g c k n = k + 1 ≡ length c.nodes → position_of n ≡ with_turn g c.turn

-- more than its marks, its children and its place is asked of a node only where its body is allowed
-- and it stands in the game
pub record IsOwed (g : Game) (c : Claim) (n : Node) : Type 0 where
  pub allowed : is_allowed g.kind g.bias c.side c.goal n.body ≡ true
  pub in_game : IsInGame g n

abbrev pub Owes : Game → Claim → Node → Type 0 → Type 0
Owes g c n P = IsOwed g c n → P

-- THE TABLE: what node number k of the claim owes under each fault's name; numbers of children are
-- asked for where the body is allowed, and a child of `weaker` is looked at where its number is
-- below k
abbrev pub Passes : Game → Claim → ℕ → Node → NodeFault → Type 0
Passes g c k n faults.Child =
    is_allowed g.kind g.bias c.side c.goal n.body ≡ true → NamesEarlier k n.body
Passes g c k n faults.Marks = IsInGame g n × FollowMoves g c.nodes (position_of n) n.body
Passes g c k n faults.Turn = Owes g c n (HasTurn c.side (position_of n) n.body)
Passes g c k n faults.Moves = Owes g c n (TakesFree g (position_of n) n.body)
Passes g c k n faults.End = Owes g c n (EndsRight g c.side c.goal (position_of n) n.body)
Passes g c k n faults.Pairs = Owes g c n (HasPairs g c.side (position_of n) n.body)
Passes g c k n faults.Potential = Owes g c n (HasPotential g c.side (position_of n) n.body)
Passes g c k n faults.Trees = Owes g c n (HasTrees g (position_of n) n.body)
Passes g c k n faults.Cuts = Owes g c n (HasCuts g (position_of n) n.body)
Passes g c k n faults.Threat = Owes g c n (HasThreat g c.side (position_of n) n.body)
Passes g c k n faults.Root = IsRoot g c k n
Passes g c k n faults.Body = is_allowed g.kind g.bias c.side c.goal n.body ≡ true
Passes g c k n faults.Weaker =
    Owes g c n (NamesEarlier k n.body → HasWeaker c.nodes c.side (position_of n) n.body)

-- ---- nodes, claims, certificates

-- the node owes nothing
abbrev pub IsSound : Game → Claim → ℕ → Node → Type 0
IsSound g c k n = (fault : NodeFault) → Passes g c k n fault

-- the fault of least number that the node has
pub record IsLeastFault (g : Game) (c : Claim) (k : ℕ) (n : Node) (fault : NodeFault) : Type 0 where
  pub fails : Passes g c k n fault → ⊥
  pub lesser : (before : NodeFault)
      → fault_number before < fault_number fault
      → Passes g c k n before

-- every node of the claim before number k is sound
abbrev pub AreSoundBefore : Game → Claim → ℕ → Type 0
AreSoundBefore g c k = (j : ℕ) (n : Node) → j < k → slice_get c.nodes j ≡ Some n → IsSound g c j n

-- every node of the claim is sound
abbrev pub IsValidClaim : Game → Claim → Type 0
IsValidClaim g c = (k : ℕ) (n : Node) → slice_get c.nodes k ≡ Some n → IsSound g c k n

-- every node of every claim is sound
abbrev pub IsValid : Game → Cert → Type 0
IsValid g cert = (i : ℕ) (c : Claim) → slice_get cert.claims i ≡ Some c → IsValidClaim g c

-- the first faulty claim, in it the first faulty node, and the least number of its faults
pub record IsFirstFault (g : Game) (cert : Cert) (claim node why : ℕ) : Type 0 where
  pub claims_before : (i : ℕ) (c : Claim)
      → i < claim
      → slice_get cert.claims i ≡ Some c
      → IsValidClaim g c
  pub faulty : Claim
  pub claim_at : slice_get cert.claims claim ≡ Some faulty
  pub nodes_before : AreSoundBefore g faulty node
  pub faulty_node : Node
  pub node_at : slice_get faulty.nodes node ≡ Some faulty_node
  pub fault : NodeFault
  pub number : why ≡ fault_number fault
  pub least : IsLeastFault g faulty node faulty_node fault
