-- Claims of one node that stand on two sets of edges.
use Rattle.std.specs.Prelude.{◌≡◌, Bool, true, false, List, [], ◌∷◌}
use Rattle.pg_solve.specs.Prelude.{FinSet, nat_cmp, Win, Side, X, Y, IsClaim, IsOfVersion}
use Rattle.pg_solve.specs.Prelude.{position_of, IsValidClaim, Claim, One, Body, Trees, Cuts, Node}
use Rattle.pg_solve.specs.Prelude.{with_turn, TreesHold, CutsHold, Game, Position}
use Rattle.pg_game.specs.Class.{Class as Named}
use Rattle.pg_game.specs.Class.Class.{Short as ForShort, Cut as ForCut, First as ForFirst}
use Rattle.pg_lehman.specs.declared.class.Class.{Class as Sets}
use Rattle.pg_lehman.specs.declared.class.Class.TheVariants.{Short as ShortSets, Cut as CutSets}
use Rattle.pg_lehman.specs.declared.class.Class.TheVariants.{First as FirstSets}
use Rattle.pg_solve.specs.Due.{winner}
use Rattle.pg_solve.specs.declared.solution.Class.{Class}
use Rattle.pg_solve.specs.declared.solution.Class.TheVariants.{Short, Cut, First}

-- the sets are the side's: X's trees, or Y's cuts
abbrev pub EdgeSetsHold : Side → Game → Position → FinSet nat_cmp → FinSet nat_cmp → Type 0
EdgeSetsHold X g p one second = TreesHold g p one second
EdgeSetsHold Y g p one second = CutsHold g p one second

-- X's trees, or Y's cuts, and whether e is in the first set
abbrev pub IsEdgeBody : Side → Bool → Body → Type 0
IsEdgeBody X with_e (Trees e first second) = e ≡ with_e
IsEdgeBody Y with_e (Cuts e first second) = e ≡ with_e
IsEdgeBody _ _ _ = ⊥

-- With this turn the side wins, as one node at the game's marks shows by its sets of edges.
pub record IsEdgeClaim (g : Game) (turn side : Side) (with_e : Bool) (claim : Claim) : Type 0 where
  pub same_turn : claim.turn ≡ turn
  pub same_side : claim.side ≡ side
  pub goal : claim.goal ≡ Win
  pub node : Node
  pub one : claim.nodes ≡ node ∷ []
  pub position : position_of node ≡ with_turn g turn
  pub body : IsEdgeBody side with_e node.body
  pub valid : IsValidClaim g claim
  pub limits : IsClaim claim
  pub version : IsOfVersion One claim

-- the class by its name in the rules
abbrev pub named : Class → Named
named Short = ForShort
named Cut = ForCut
named First = ForFirst

-- the class that sets show
abbrev pub without_sets : Sets → Class
without_sets (ShortSets a1 a2) = Short
without_sets (CutSets d1 d2) = Cut
without_sets (FirstSets a1 a2 d1 d2) = First

-- whether the sets of the class need e: where the side that moves first wins
abbrev pub needs_e : Class → Bool
needs_e Short = false
needs_e Cut = false
needs_e First = true

-- Two claims show the class, with X and then with Y to move first.
pub record AreClassClaims (g : Game) (class : Class) (claims : List Claim) : Type 0 where
  pub first : Claim
  pub second : Claim
  pub two : claims ≡ first ∷ second ∷ []
  pub with_x : IsEdgeClaim g X (winner class X) (needs_e class) first
  pub with_y : IsEdgeClaim g Y (winner class Y) (needs_e class) second
