-- What is known of the positions at places.
use Rattle.std.specs.Prelude.{◌≡◌, ℕ, Bool, not, Option, Some, None, List, slice_get, length}
use Rattle.pg_met.specs.Prelude.{Contains, Side, Body, Reply, Move, answer_for}
use Rattle.pg_cert.specs.declared.node.Body.TheVariants.{All}
use Rattle.pg_met.specs.declared.known.Answered.{Answered}

abbrev pub answer_of : Option (Option Answered) → Option Bool
answer_of None = None
answer_of (Some None) = None
answer_of (Some (Some a)) = Some a.answer

-- the answer at a place
abbrev pub answer_at : List (Option Answered) → ℕ → Option Bool
answer_at answers i = answer_of (slice_get answers i)

-- the position at the place has this answer, shown by this node
abbrev pub IsShown : List (Option Answered) → ℕ → Bool → ℕ → Type 0
IsShown answers i answer node =
    slice_get answers i ≡ Some (Some (record { answer = answer; node = node }))

-- the move leads to a place with the answer, shown by the node
pub record HasMove (answer : Bool) (moves : List (ℕ × ℕ)) (answers : List (Option Answered))
    (point node : ℕ) : Type 0 where
  pub place : ℕ
  pub member : Contains moves (point, place)
  pub shown : IsShown answers place answer node

-- each move leads to a place with the answer, shown by the node of the reply
pub record HaveReplies (answer : Bool) (moves : List (ℕ × ℕ)) (answers : List (Option Answered))
    (replies : List Reply) : Type 0 where
  pub count : length replies ≡ length moves
  pub shown : (n : ℕ) (m : ℕ × ℕ) (r : Reply)
      → slice_get moves n ≡ Some m
      → slice_get replies n ≡ Some r
      → (r.point ≡ m.0) × IsShown answers m.1 answer r.child

-- the body that shows the answer by the moves of the side to move: the move that gives it, or all
abbrev pub IsBodyBy : Side → List (ℕ × ℕ) → List (Option Answered) → Bool → Body → Type 0
IsBodyBy turn moves answers answer (Move point child) =
    (answer ≡ answer_for turn) × HasMove answer moves answers point child
IsBodyBy turn moves answers answer (All replies) =
    (answer ≡ not (answer_for turn)) × HaveReplies answer moves answers replies
IsBodyBy turn moves answers answer _ = ⊥
