-- The claim that is being checked: what it says, how many nodes it has, and the positions of those
-- that were checked.
use Rattle.std.specs.Prelude.{◌≡◌, ℕ, ◌+◌, ◌<◌, ◌≤◌, length, map, take}
use Rattle.pg_check.specs.Prelude.{ShareNone, Game, Position, with_turn, Claim, Node, Over}
use Rattle.pg_check.specs.Prelude.{NodeFault, position_of, fault_number, Passes, Body}
use Rattle.pg_check.specs.Prelude.{HasTurn, TakesFree, FollowMoves, EndsRight, HasPairs}
use Rattle.pg_check.specs.Prelude.{HasPotential, HasTrees, HasCuts, HasThreat, HasWeaker, kept}
use Rattle.pg_cert.specs.declared.node_fault.NodeFault.TheVariants as faults
use Rattle.pg_check.specs.declared.present.Present.{Present}

-- a node of which no more than its position is known
abbrev pub bare : Position → Node
bare p = record { x = p.x; y = p.y; turn = p.turn; left = p.left; body = Over }

-- the node has the position, no point is both sides', and the side to move claims at least one
pub record HasPosition (n : Node) (p : Position) : Type 0 where
  pub same : p ≡ position_of n
  pub apart : ShareNone n.x n.y
  pub some_left : 1 ≤ n.left

-- the claim as far as it is known
abbrev pub known : Present → Claim
known c = record { turn = c.turn; side = c.side; goal = c.goal; nodes = map bare (kept c.marks) }

-- what a node owes under each fault's name, by what is known: the last node is told by the number
-- of nodes
abbrev pub PassesSoFar : Game → Present → ℕ → Node → NodeFault → Type 0
PassesSoFar g c k n faults.Root = k + 1 ≡ c.count → position_of n ≡ with_turn g c.turn
PassesSoFar g c k n fault = Passes g (known c) k n fault

-- the node owes nothing
abbrev pub IsSoundSoFar : Game → Present → ℕ → Node → Type 0
IsSoundSoFar g c k n = (fault : NodeFault) → PassesSoFar g c k n fault

-- what the node says of moves and of the end is right, by what is known
pub record AreMoves (g : Game) (c : Present) (p : Position) (body : Body) : Type 0 where
  pub turn : HasTurn c.side p body
  pub free : TakesFree g p body
  pub follow : FollowMoves g (map bare (kept c.marks)) p body
  pub ends : EndsRight g c.side c.goal p body

-- and what it stands on holds
pub record MeetsCriterion (g : Game) (c : Present) (p : Position) (body : Body) : Type 0 where
  pub pairs : HasPairs g c.side p body
  pub potential : HasPotential g c.side p body
  pub trees : HasTrees g p body
  pub cuts : HasCuts g p body
  pub threat : HasThreat g c.side p body
  pub weaker : HasWeaker (map bare (kept c.marks)) c.side p body

-- the fault of least number
pub record IsLeastSoFar (g : Game) (c : Present) (k : ℕ) (n : Node)
    (fault : NodeFault) : Type 0 where
  pub fails : PassesSoFar g c k n fault → ⊥
  pub lesser : (before : NodeFault)
      → fault_number before < fault_number fault
      → PassesSoFar g c k n before

-- this is what is known of the claim when its first k nodes have been checked
pub record IsKnownOf (c : Present) (claim : Claim) (k : ℕ) : Type 0 where
  pub turn : c.turn ≡ claim.turn
  pub side : c.side ≡ claim.side
  pub goal : c.goal ≡ claim.goal
  pub count : c.count ≡ length claim.nodes
  pub marks : (kept c.marks) ≡ map position_of (take k claim.nodes)
