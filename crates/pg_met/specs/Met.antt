-- Positions that a search meets.
use Rattle.std.specs.Prelude.{◌≡◌, ℕ, Bool, true, false, not, List, [], ◌∷◌, ◌++◌, length, Option}
use Rattle.std.specs.Prelude.{Some, None}
use Rattle.std.specs.Prelude.{slice_get, ◌⊎◌, ◌≤◌, ◌+◌, option_map, IfSome}
use Rattle.pg_met.specs.Prelude.{Body, Position, Node, Game, Score, position_of, IsLeaf, decided}
use Rattle.pg_met.specs.declared.known.Answered.{Answered}
use Rattle.pg_met.specs.Table.{HasShape, Agree, AreShown, AreDecided}

-- the position has the place in the list, to whose end it was added if it is new
pub record IsMeeting (q : Position) (old new : List Position) (place : ℕ)
    (is_new : Bool) : Type 0 where
  pub at : slice_get new place ≡ Some q
  pub known : is_new ≡ false → new ≡ old
  pub added : is_new ≡ true → new ≡ old ++ q ∷ []
  pub fresh : is_new ≡ true → (k : ℕ) → slice_get old k ≡ Some q → ⊥

-- All that a search keeps of the positions met.
pub record IsTree (g : Game) (t : Score) (due : List ℕ) (positions : List Position)
    (moves : List (List (ℕ × ℕ))) (parents : List (List ℕ))
    (answers : List (Option Answered)) (nodes : Bool → List Node) : Type 0 where
  pub shape : HasShape g t positions moves parents
  pub agree : Agree positions moves answers due
  pub shown : AreShown g t positions answers nodes
  pub leafs : AreDecided g t positions answers

-- what a criterion gives a position: its answer, with a body that shows it, or nothing where none
-- decides it
pub record IsLeafOf (g : Game) (t : Score) (q : Position)
    (found : Option (Bool × Body)) : Type 0 where
  pub answer : option_map (λ k. k.0) found ≡ decided g t q
  pub body : IfSome found (λ k. IsLeaf g t q k.0 k.1)

-- what is added for a position: no answer and no node, or an answer with a node that shows it
pub record IsLeafAdded (g : Game) (t : Score) (q : Position) (a : Answered)
    (old new : Bool → List Node) : Type 0 where
  pub node : Node
  pub decides : decided g t q ≡ Some a.answer
  pub number : a.node ≡ length (old a.answer)
  pub position : position_of node ≡ q
  pub shows : IsLeaf g t q a.answer node.body
  pub added : new a.answer ≡ old a.answer ++ node ∷ []
  pub other : new (not a.answer) ≡ old (not a.answer)

abbrev pub LeafAdds : Game
    → Score
    → Position
    → Option Answered
    → (Bool → List Node)
    → (Bool → List Node)
    → Type 0
LeafAdds g t q None old new = (decided g t q ≡ None) × ((b : Bool) → new b ≡ old b)
LeafAdds g t q (Some a) old new = IsLeafAdded g t q a old new

-- what there was stands where it stood, and the only new position is q, if it is new
pub record Extends (q : Position) (positions more : List Position)
    (moves nexts : List (List (ℕ × ℕ))) (parents ups : List (List ℕ))
    (answers known : List (Option Answered)) : Type 0 where
  pub same_positions : (i : ℕ) (p : Position)
      → slice_get positions i ≡ Some p
      → slice_get more i ≡ Some p
  pub same_moves : (i : ℕ) (ms : List (ℕ × ℕ))
      → slice_get moves i ≡ Some ms
      → slice_get nexts i ≡ Some ms
  pub same_parents : (i : ℕ) (ps : List ℕ)
      → slice_get parents i ≡ Some ps
      → slice_get ups i ≡ Some ps
  pub same_answers : (i : ℕ) (a : Option Answered)
      → slice_get answers i ≡ Some a
      → slice_get known i ≡ Some a
  pub count : length more ≤ length positions + 1
  pub new : (i : ℕ) (p : Position)
      → slice_get more i ≡ Some p
      → (slice_get positions i ≡ Some p) ⊎ (p ≡ q)
  pub new_parents : (i : ℕ) (ps : List ℕ)
      → slice_get ups i ≡ Some ps
      → (slice_get parents i ≡ Some ps) ⊎ (ps ≡ [])
