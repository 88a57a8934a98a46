-- The nodes of a claim that its root reaches, and the others left out.
use Rattle.std.specs.Prelude.{◌≡◌, ℕ, suc, ◌<◌, ◌≤◌, ◌+◌, Bool, true, false, List, [], ◌∷◌, ◌++◌}
use Rattle.std.specs.Prelude.{length, slice_get, Some, ◌⊎◌}
use Rattle.pg_leaf.specs.Prelude.{Contains, IsMarked, Goal, Side, Game, position_of, Body, Move}
use Rattle.pg_leaf.specs.Prelude.{Weaker, Node, Reply}
use Rattle.pg_cert.specs.declared.node.Body.TheVariants.{All}
use Rattle.pg_leaf.specs.Sound.{NodesHold}

-- ---- marks

-- some reply names the number as its child
abbrev pub AreNamed : List Reply → ℕ → Type 0
AreNamed replies i = (r : Reply) × Contains replies r × (r.child ≡ i)

-- the body names the number as a child
abbrev pub Names : Body → ℕ → Type 0
Names (Move point child) i = child ≡ i
Names (All replies) i = AreNamed replies i
Names (Weaker child) i = child ≡ i
Names _ i = ⊥

-- the marks, and those of some numbers more
pub record MarksMore (named : ℕ → Type 0) (old new : List Bool) : Type 0 where
  pub count : length new ≡ length old
  pub kept : (i : ℕ) → IsMarked old i → IsMarked new i
  pub marked : (i : ℕ) → named i → IsMarked new i
  pub only : (i : ℕ) → IsMarked new i → (IsMarked old i) ⊎ named i

-- a marked node names the number
pub record IsNamed (nodes : List Node) (marks : List Bool) (i : ℕ) : Type 0 where
  pub by : ℕ
  pub node : Node
  pub marked : IsMarked marks by
  pub at : slice_get nodes by ≡ Some node
  pub names : Names node.body i

-- what marked nodes from number k on name is marked, and each marked node but the last is named by
-- one
pub record AreMarked (nodes : List Node) (k : ℕ) (marks : List Bool) : Type 0 where
  pub count : length marks ≡ length nodes
  pub last : (n : ℕ) → length nodes ≡ suc n → IsMarked marks n
  pub closed : (j i : ℕ) (m : Node)
      → k ≤ j
      → IsMarked marks j
      → slice_get nodes j ≡ Some m
      → Names m.body i
      → IsMarked marks i
  pub used : (i : ℕ) → IsMarked marks i → suc i < length nodes → IsNamed nodes marks i

-- ---- new numbers

-- the replies with new numbers of their children
pub record AreRenumbered (numbers : List ℕ) (old new : List Reply) : Type 0 where
  pub count : length new ≡ length old
  pub each : (k : ℕ) (r : Reply)
      → slice_get old k ≡ Some r
      → (d : ℕ) × (slice_get numbers r.child ≡ Some d)
      × (slice_get new k ≡ Some (record { point = r.point; child = d }))

-- the body with new numbers of its children
abbrev pub Renumbers : List ℕ → Body → Body → Type 0
Renumbers numbers (Move point child) new =
    (d : ℕ) × (slice_get numbers child ≡ Some d) × (new ≡ Move point d)
Renumbers numbers (All replies) new =
    (others : List Reply) × AreRenumbered numbers replies others × (new ≡ All others)
Renumbers numbers (Weaker child) new =
    (d : ℕ) × (slice_get numbers child ≡ Some d) × (new ≡ Weaker d)
Renumbers numbers body new = new ≡ body

-- the node stands at its new number
pub record IsMoved (numbers : List ℕ) (out : List Node) (d : ℕ) (n : Node) : Type 0 where
  pub node : Node
  pub at : slice_get out d ≡ Some node
  pub position : position_of node ≡ position_of n
  pub body : Renumbers numbers n.body node.body

-- the node comes from a marked one
pub record IsSource (nodes : List Node) (marks : List Bool) (numbers : List ℕ) (d : ℕ)
    (m : Node) : Type 0 where
  pub from : ℕ
  pub node : Node
  pub marked : IsMarked marks from
  pub at : slice_get nodes from ≡ Some node
  pub number : slice_get numbers from ≡ Some d
  pub position : position_of m ≡ position_of node
  pub body : Renumbers numbers node.body m.body

-- of the nodes below number k the marked ones stand in their order, each at its new number
pub record IsPruned (nodes : List Node) (marks : List Bool) (k : ℕ) (numbers : List ℕ)
    (out : List Node) : Type 0 where
  pub count : length numbers ≡ k
  pub few : length out ≤ k
  pub last : (i d : ℕ)
      → suc i ≡ k
      → IsMarked marks i
      → slice_get numbers i ≡ Some d
      → length out ≡ d + 1
  pub moved : (i d : ℕ) (n : Node)
      → IsMarked marks i
      → slice_get numbers i ≡ Some d
      → slice_get nodes i ≡ Some n
      → IsMoved numbers out d n
  pub source : (d : ℕ) (m : Node) → slice_get out d ≡ Some m → IsSource nodes marks numbers d m
  pub hold : (g : Game) (side : Side) (goal : Goal)
      → NodesHold g side goal nodes
      → NodesHold g side goal out

-- what is kept of one node: its new number, and the node itself where it is marked
pub record IsKept (marked : Bool) (n : Node) (numbers more : List ℕ)
    (out behind : List Node) : Type 0 where
  pub number : more ≡ numbers ++ length out ∷ []
  pub taken : marked ≡ true
      → (m : Node) × (position_of m ≡ position_of n)
      × Renumbers more n.body m.body
      × (behind ≡ out ++ m ∷ [])
  pub left : marked ≡ false → behind ≡ out

-- a later node names the number as a child
pub record IsUsed (nodes : List Node) (i : ℕ) : Type 0 where
  pub by : ℕ
  pub node : Node
  pub later : i < by
  pub at : slice_get nodes by ≡ Some node
  pub names : Names node.body i
