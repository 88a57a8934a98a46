-- The positions that a search has met, with their moves, by place.
use Rattle.std.specs.Prelude.{◌≡◌, ℕ, ◌<◌, ◌+◌, ◌*◌, Bool, true, false, Option, Some, None, List}
use Rattle.std.specs.Prelude.{[], map, length, slice_get, ◌⊎◌}
use Rattle.pg_met.specs.Prelude.{Contains, count_by, sum_by, is_none, Position, Node, Game, Score}
use Rattle.pg_met.specs.Prelude.{NodesHold, position_of, free_points, after, IsPosition}
use Rattle.pg_met.specs.Prelude.{criterion_of, first_criterion, decided, claimer, claimed_goal}
use Rattle.pg_met.specs.declared.known.Answered.{Answered}
use Rattle.pg_met.specs.Known.{answer_at, IsShown}
use Rattle.pg_met.specs.Settles.{by_answers}

-- Different positions of the game. One that has moves is undecided and has all, each with the place
-- of the position after it, and it is a parent of those.
pub record HasShape (g : Game) (t : Score) (positions : List Position) (moves : List (List (ℕ × ℕ)))
    (parents : List (List ℕ)) : Type 0 where
  pub move_count : length moves ≡ length positions
  pub parent_count : length parents ≡ length positions
  pub fits : (i : ℕ) (p : Position) → slice_get positions i ≡ Some p → IsPosition g p
  pub different : (i k : ℕ) (p : Position)
      → slice_get positions i ≡ Some p
      → slice_get positions k ≡ Some p
      → i ≡ k
  pub undecided : (i : ℕ) (p : Position) (ms : List (ℕ × ℕ))
      → slice_get positions i ≡ Some p
      → slice_get moves i ≡ Some ms
      → 0 < length ms
      → decided g t p ≡ None
  pub points : (i : ℕ) (p : Position) (ms : List (ℕ × ℕ))
      → slice_get positions i ≡ Some p
      → slice_get moves i ≡ Some ms
      → 0 < length ms
      → map (λ m. m.0) ms ≡ free_points g p
  pub leads : (i : ℕ) (p : Position) (ms : List (ℕ × ℕ))
      → slice_get positions i ≡ Some p
      → slice_get moves i ≡ Some ms
      → (m : ℕ × ℕ) → Contains ms m
      → slice_get positions m.1 ≡ Some (after g p m.0)
  pub kept : (i : ℕ) (ms : List (ℕ × ℕ))
      → slice_get moves i ≡ Some ms
      → (m : ℕ × ℕ) → Contains ms m
      → (ps : List ℕ) × (slice_get parents m.1 ≡ Some ps) × Contains ps i
  pub parent_range : (i : ℕ) (ps : List ℕ)
      → slice_get parents i ≡ Some ps
      → (k : ℕ) → Contains ps k
      → k < length positions

-- each answer is shown by a node of its claimer that holds, and each node shows one
pub record AreShown (g : Game) (t : Score) (positions : List Position)
    (answers : List (Option Answered)) (nodes : Bool → List Node) : Type 0 where
  pub hold : (b : Bool) → NodesHold g (claimer b) (claimed_goal g.kind t b) (nodes b)
  pub shown : (i : ℕ) (b : Bool) (n : ℕ)
      → IsShown answers i b n
      → (node : Node) × (slice_get (nodes b) n ≡ Some node)
      × (slice_get positions i ≡ Some (position_of node))
  pub placed : (b : Bool) (n : ℕ) (node : Node)
      → slice_get (nodes b) n ≡ Some node
      → (i : ℕ) × IsShown answers i b n
  pub kinds : (b : Bool) (n : ℕ) (node : Node)
      → slice_get (nodes b) n ≡ Some node
      → criterion_of node.body ≡ first_criterion g t (position_of node)
  pub count : length (nodes true) + length (nodes false) + count_by is_none answers ≡ length answers

-- Answers agree with what is known from the moves, save that the places that are due may lack one.
pub record Agree (positions : List Position) (moves : List (List (ℕ × ℕ)))
    (answers : List (Option Answered)) (due : List ℕ) : Type 0 where
  pub count : length answers ≡ length positions
  pub range : (i : ℕ) → Contains due i → i < length positions
  pub sound : (i : ℕ) (p : Position) (ms : List (ℕ × ℕ))
      → slice_get positions i ≡ Some p
      → slice_get moves i ≡ Some ms
      → 0 < length ms
      → (b : Bool) → answer_at answers i ≡ Some b
      → by_answers answers p ms ≡ Some b
  pub known : (i : ℕ) (p : Position) (ms : List (ℕ × ℕ))
      → slice_get positions i ≡ Some p
      → slice_get moves i ≡ Some ms
      → 0 < length ms
      → (b : Bool) → by_answers answers p ms ≡ Some b
      → (answer_at answers i ≡ Some b) ⊎ Contains due i

-- how much can still be done
unfoldable pub work_left : List (List ℕ) → List (Option Answered) → List ℕ → ℕ
work_left parents answers due = count_by is_none answers * (sum_by length parents + 1) + length due

-- answers stay
abbrev pub Grow : List (Option Answered) → List (Option Answered) → Type 0
Grow before behind = (i : ℕ) (b : Bool) → answer_at before i ≡ Some b → answer_at behind i ≡ Some b

-- the state of answers while they spread
pub record Spreads (g : Game) (t : Score) (positions : List Position) (moves : List (List (ℕ × ℕ)))
    (first answers : List (Option Answered)) (nodes : Bool → List Node)
    (due : List ℕ) : Type 0 where
  pub agree : Agree positions moves answers due
  pub shown : AreShown g t positions answers nodes
  pub grow : Grow first answers

-- what a criterion decides is answered
abbrev pub AreDecided : Game → Score → List Position → List (Option Answered) → Type 0
AreDecided g t positions answers =
    (i : ℕ) (p : Position) (b : Bool) → slice_get positions i ≡ Some p
    → decided g t p ≡ Some b
    → answer_at answers i ≡ Some b

-- the positions of the list are those at the places that have moves
pub record AreExpanded (table positions : List Position)
    (moves : List (List (ℕ × ℕ))) : Type 0 where
  pub placed : (p : Position)
      → Contains table p
      → (i : ℕ) × (ms : List (ℕ × ℕ)) × (slice_get positions i ≡ Some p)
      × (slice_get moves i ≡ Some ms)
      × (0 < length ms)
  pub listed : (i : ℕ) (p : Position) (ms : List (ℕ × ℕ))
      → slice_get positions i ≡ Some p
      → slice_get moves i ≡ Some ms
      → 0 < length ms
      → Contains table p

-- a place that can be expanded: it has no answer and no moves, and some place before it has no
-- answer
pub record CanExpand (positions : List Position) (moves : List (List (ℕ × ℕ)))
    (parents : List (List ℕ)) (answers : List (Option Answered)) (k : ℕ) : Type 0 where
  pub from : ℕ
  pub ups : List ℕ
  pub at : slice_get parents k ≡ Some ups
  pub member : Contains ups from
  pub before : answer_at answers from ≡ None
  pub unanswered : answer_at answers k ≡ None
  pub bare : slice_get moves k ≡ Some []
