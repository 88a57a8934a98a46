-- The leaf of a decided position: which criterion decides it, and the body that shows it.
use Rattle.std.specs.Prelude.{◌≡◌, ℕ, ◌<◌, ◌%◌, Bool, List, Option, Some, None, length}
use Rattle.pg_leaf.specs.Prelude.{All, Score, Game, Position, Criterion, claimer, claimed_goal}
use Rattle.pg_leaf.specs.Prelude.{ByEnd, ByPotential, ByThreat, ByPairs, IsThreatLine, Node, Body}
use Rattle.pg_leaf.specs.Prelude.{Over, Move, Pairs, Potential, Trees, Cuts, Threat, Weaker}
pub use Rattle.pg_game.specs.Decided.{first_criterion}
use Rattle.pg_cert.specs.declared.node.Body.TheVariants.{All as AllReplies}
use Rattle.pg_leaf.specs.Sound.{BodyHolds}
use Rattle.pg_base.specs.declared.limits.TheConstants.{MAX_MEMBERS}

-- the criterion by which a body shows the answer, where it is by one
abbrev pub criterion_of : Body → Option Criterion
criterion_of Over = Some ByEnd
criterion_of (Move point child) = None
criterion_of (AllReplies replies) = None
criterion_of (Pairs pairs) = Some ByPairs
criterion_of Potential = Some ByPotential
criterion_of (Trees with_e first second) = None
criterion_of (Cuts with_e first second) = None
criterion_of (Threat points) = Some ByThreat
criterion_of (Weaker child) = None

-- the points are a threat line of the side to move, an odd number of points
pub record IsAttackLine (g : Game) (p : Position) (points : List ℕ) : Type 0 where
  pub line : IsThreatLine g p p.turn points
  pub range : All (λ v. v < MAX_MEMBERS) points
  pub odd : length points % 2 ≡ 1

-- the body shows the answer at the position wherever the node stands, and it is by the first
-- criterion
pub record IsLeaf (g : Game) (t : Score) (p : Position) (b : Bool) (body : Body) : Type 0 where
  pub holds : (nodes : List Node) (k : ℕ)
      → BodyHolds g (claimer b) (claimed_goal g.kind t b) nodes k p body
  pub first : criterion_of body ≡ first_criterion g t p
