-- What an attempt to settle the position at a place does.
use Rattle.std.specs.Prelude.{◌≡◌, ℕ, Bool, true, false, not, Option, Some, None, List, [], ◌∷◌}
use Rattle.std.specs.Prelude.{◌++◌, map, length, slice_set}
use Rattle.pg_met.specs.Prelude.{Position, Node, position_of, by_moves}
use Rattle.pg_met.specs.declared.known.Answered.{Answered}
use Rattle.pg_met.specs.declared.claims.Claims.{Claims}
use Rattle.pg_met.specs.Known.{answer_at, IsBodyBy}
use Rattle.pg_met.specs.Claims.{nodes_of}

-- what is known of a position from the answers at the places of its moves
abbrev pub by_answers : List (Option Answered) → Position → List (ℕ × ℕ) → Option Bool
by_answers answers p moves = by_moves p.turn (map (λ m. answer_at answers m.1) moves)

-- the place has the answer known from its moves, with a new node that shows it
pub record IsSettledAt (p : Position) (moves : List (ℕ × ℕ)) (place : ℕ)
    (before behind : List (Option Answered)) (old new : Claims) : Type 0 where
  pub answer : Bool
  pub node : Node
  pub by : by_answers before p moves ≡ Some answer
  pub shows : IsBodyBy p.turn moves before answer node.body
  pub position : position_of node ≡ p
  pub answers : behind ≡ slice_set before place
      (Some (record { answer = answer; node = length (nodes_of old answer) }))
  pub added : nodes_of new answer ≡ nodes_of old answer ++ node ∷ []
  pub other : nodes_of new (not answer) ≡ nodes_of old (not answer)

-- nothing is known, and nothing changes
pub record IsLeftOpen (p : Position) (moves : List (ℕ × ℕ)) (before behind : List (Option Answered))
    (old new : Claims) : Type 0 where
  pub by : by_answers before p moves ≡ None
  pub answers : behind ≡ before
  pub claims : (b : Bool) → nodes_of new b ≡ nodes_of old b

abbrev pub Settles : Bool
    → Position
    → List (ℕ × ℕ)
    → ℕ
    → List (Option Answered)
    → List (Option Answered)
    → Claims
    → Claims
    → Type 0
Settles true p moves place before behind old new = IsSettledAt p moves place before behind old new
Settles false p moves place before behind old new = IsLeftOpen p moves before behind old new
