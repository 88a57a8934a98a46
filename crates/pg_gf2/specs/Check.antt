-- Certificates of games on vectors: what a valid claim has, and the first flaw of one that isn't
-- valid.
use Rattle.std.specs.Prelude.{◌≡◌, ◌<◌, ◌⊎◌, ℕ, Bool, true, false, if◌then◌else◌, length, slice_get}
use Rattle.std.specs.Prelude.{Option, None, Some}
use Rattle.pg_gf2.specs.Prelude.{FinSet, insert, nat_cmp, AreBelow, Win, Side, X, Y, Body, Trees}
use Rattle.pg_gf2.specs.Prelude.{Cuts, Node, Cert, Claim, Version, One}
use Rattle.pg_gf2.specs.declared.checked.Faulty.{Faulty}
use Rattle.pg_gf2.specs.declared.flaw.VecFlaw.{VecFlaw}
use Rattle.pg_gf2.specs.declared.flaw.VecFlaw.TheVariants as flaws
use Rattle.pg_gf2.specs.declared.game.VecGame.{VecGame}
use Rattle.pg_gf2.specs.Classes.{TreesAt, CutsAt}

-- the number of a flaw's code
abbrev pub flaw_number : VecFlaw → ℕ
flaw_number flaws.Form = 1
flaw_number flaws.Position = 2
flaw_number flaws.Claimer = 3
flaw_number flaws.Trees = 4
flaw_number flaws.Cuts = 5

-- ---- bodies

-- whether the body is trees or cuts
abbrev pub names_sets : Body → Bool
names_sets (Trees with_e first second) = true
names_sets (Cuts with_e first second) = true
names_sets _ = false

-- trees are X's, and cuts are Y's
abbrev pub IsOfSide : Side → Body → Type 0
IsOfSide side (Trees with_e first second) = side ≡ X
IsOfSide side (Cuts with_e first second) = side ≡ Y
IsOfSide side _ = Unit {0}

-- the game's marks, and the turn with one vector to claim
pub record IsAtMarks (g : VecGame) (turn : Side) (node : Node) : Type 0 where
  pub x_marks : node.x ≡ g.x
  pub y_marks : node.y ≡ g.y
  pub to_move : node.turn ≡ turn
  pub one_left : node.left ≡ 1

-- the first set of a body, with e where that is named
abbrev pub with_e_named : VecGame → Bool → FinSet nat_cmp → FinSet nat_cmp
with_e_named g with_e first = if with_e then insert first (length g.vectors) else first

-- the members that a body names by number are vectors
abbrev pub AreVectorSets : VecGame → FinSet nat_cmp → FinSet nat_cmp → Type 0
AreVectorSets g first second =
    AreBelow first (length g.vectors) × AreBelow second (length g.vectors)

-- trees of the body hold
abbrev pub HasTrees : VecGame → Side → Body → Type 0
HasTrees g turn (Trees with_e first second) =
    AreVectorSets g first second × TreesAt g turn (with_e_named g with_e first) second
HasTrees g turn _ = Unit {0}

-- cuts of the body hold
abbrev pub HasCuts : VecGame → Side → Body → Type 0
HasCuts g turn (Cuts with_e first second) =
    AreVectorSets g first second × CutsAt g turn (with_e_named g with_e first) second
HasCuts g turn _ = Unit {0}

-- ---- claims

-- the node is free of the flaw
abbrev pub NodePasses : VecGame → Claim → Node → VecFlaw → Type 0
NodePasses g claim node flaws.Form = names_sets node.body ≡ true
NodePasses g claim node flaws.Position = IsAtMarks g claim.turn node
NodePasses g claim node flaws.Claimer = IsOfSide claim.side node.body × (claim.goal ≡ Win)
NodePasses g claim node flaws.Trees = HasTrees g claim.turn node.body
NodePasses g claim node flaws.Cuts = HasCuts g claim.turn node.body

-- version 1, one node, and that node passes all tests
pub record IsVecClaimValid (g : VecGame) (version : Version) (claim : Claim) : Type 0 where
  pub version_one : version ≡ One
  pub one_node : length claim.nodes ≡ 1
  pub sound : (node : Node)
      → slice_get claim.nodes 0 ≡ Some node
      → (flaw : VecFlaw) → NodePasses g claim node flaw

-- every claim is valid
abbrev pub IsVecValid : VecGame → Cert → Type 0
IsVecValid g c =
    (i : ℕ) (claim : Claim) → slice_get c.claims i ≡ Some claim → IsVecClaimValid g c.version claim

-- the node has the flaw and none with a lesser number
pub record IsNodeFlaw (g : VecGame) (claim : Claim) (node : Node) (flaw : VecFlaw) : Type 0 where
  pub lesser : (f : VecFlaw) → flaw_number f < flaw_number flaw → NodePasses g claim node f
  pub fails : NodePasses g claim node flaw → ⊥

-- a claim of another version or with more or fewer nodes than one has the first flaw; else it's its
-- node's
abbrev pub IsClaimFlaw : VecGame → Version → Claim → VecFlaw → Type 0
IsClaimFlaw g version claim flaw =
    ((flaw ≡ flaws.Form) × ((version ≡ One) × (length claim.nodes ≡ 1) → ⊥))
    ⊎ ((version ≡ One)
    × (length claim.nodes ≡ 1)
    × (node : Node) × (slice_get claim.nodes 0 ≡ Some node)
    × IsNodeFlaw g claim node flaw)

-- nothing wrong with the node, or the least flaw
abbrev pub IsNodeVerdict : VecGame → Claim → Node → Option VecFlaw → Type 0
IsNodeVerdict g claim node None = (flaw : VecFlaw) → NodePasses g claim node flaw
IsNodeVerdict g claim node (Some flaw) = IsNodeFlaw g claim node flaw

-- nothing wrong with the claim, or the least flaw
abbrev pub IsClaimVerdict : VecGame → Version → Claim → Option VecFlaw → Type 0
IsClaimVerdict g version claim None = IsVecClaimValid g version claim
IsClaimVerdict g version claim (Some flaw) = IsClaimFlaw g version claim flaw

-- the first faulty claim with its least flaw, which is named at node 0
pub record IsFirstVecFault (g : VecGame) (c : Cert) (claim node : ℕ) (flaw : VecFlaw) : Type 0 where
  pub claims_before : (i : ℕ) (k : Claim)
      → i < claim
      → slice_get c.claims i ≡ Some k
      → IsVecClaimValid g c.version k
  pub faulty : Claim
  pub claim_at : slice_get c.claims claim ≡ Some faulty
  pub node_first : node ≡ 0
  pub has_flaw : IsClaimFlaw g c.version faulty flaw

-- no faulty claim, or the first
abbrev pub IsVerdict : VecGame → Cert → Option Faulty → Type 0
IsVerdict g c None = IsVecValid g c
IsVerdict g c (Some faulty) = IsFirstVecFault g c faulty.claim 0 faulty.why
