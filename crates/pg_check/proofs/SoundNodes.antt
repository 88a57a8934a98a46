-- A node that passes each test once owes nothing under any fault's name.
use Rattle.std.proofs.Common.{◌≡◌, ℕ, ◌+◌, subst}
use Rattle.pg_check.proofs.Common.{Game, Position, Node, NodeFault, IsOwed, NamesEarlier}
use Rattle.pg_check.proofs.Common.{position_of, with_turn}
use Rattle.pg_cert.specs.declared.node_fault.NodeFault.TheVariants as faults
use Rattle.pg_check.specs.declared.present.Present.{Present}
use Rattle.pg_check.specs.Present.{known, PassesSoFar, AreMoves, MeetsCriterion}

module _ (g : Game) (c : Present) (k : ℕ) (n : Node) (p : Position) where
  -- what the tests of a node have told
  pub record IsTested : Type 0 where
    pub owed : IsOwed g (known c) n
    pub earlier : NamesEarlier k n.body
    pub moves : AreMoves g c p n.body
    pub stands : MeetsCriterion g c p n.body
    pub root : k + 1 ≡ c.count → p ≡ with_turn g c.turn

passes-all : (g : Game) (c : Present) (k : ℕ) (n : Node)
    → IsTested g c k n (position_of n)
    → (fault : NodeFault)
    → PassesSoFar g c k n fault
passes-all g c k n t faults.Child = λ _. t.earlier
passes-all g c k n t faults.Marks = (t.owed.in_game, t.moves.follow)
passes-all g c k n t faults.Turn = λ _. t.moves.turn
passes-all g c k n t faults.Moves = λ _. t.moves.free
passes-all g c k n t faults.End = λ _. t.moves.ends
passes-all g c k n t faults.Pairs = λ _. t.stands.pairs
passes-all g c k n t faults.Potential = λ _. t.stands.potential
passes-all g c k n t faults.Trees = λ _. t.stands.trees
passes-all g c k n t faults.Cuts = λ _. t.stands.cuts
passes-all g c k n t faults.Threat = λ _. t.stands.threat
passes-all g c k n t faults.Root = t.root
passes-all g c k n t faults.Body = t.owed.allowed
passes-all g c k n t faults.Weaker = λ _ _. t.stands.weaker

pub sound-from_tests : (g : Game) (c : Present) (k : ℕ) (n : Node) (p : Position)
    → p ≡ position_of n
    → IsTested g c k n p
    → (fault : NodeFault)
    → PassesSoFar g c k n fault
sound-from_tests g c k n p same t fault =
    passes-all g c k n (subst (λ (q : Position). IsTested g c k n q) same t) fault
