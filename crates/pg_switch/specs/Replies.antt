-- Replies to the loss of an edge, and when a plan may be asked.
use Rattle.std.specs.Prelude.{◌≡◌, ℕ, ◌<◌, true, false, Option, Some, None, unwrap_or}
use Rattle.pg_switch.specs.Prelude.{FinSet, contains, remove, nat_cmp, Switching, Side, other}
use Rattle.pg_switch.specs.Prelude.{Graph, first_end_of, second_end_of, Field, Lines, Game}
use Rattle.pg_switch.specs.Prelude.{Position, IsPosition, point_count, is_over, after, is_free}
use Rattle.pg_switch.specs.Prelude.{Answered, lowest_free_edge, lowest_crossing, lowest_parting}
use Rattle.pg_switch.specs.Prelude.{with_set, without_set, trees_answer, cuts_answer}
use Rattle.pg_game.specs.declared.field.Field.TheVariants.{Graph as OnGraph}

-- the lowest edge of the other set that crosses what is left of the one, else the lowest free edge
abbrev pub short_reply : Graph → Position → FinSet nat_cmp → FinSet nat_cmp → ℕ → ℕ
short_reply h p one another x =
    unwrap_or (lowest_crossing h (with_set p (remove one x)) (first_end_of h x) another)
    (lowest_free_edge h p)

-- the lowest edge of the other set that parts the ends of x, else the lowest free edge
abbrev pub cut_reply : Graph → Position → FinSet nat_cmp → FinSet nat_cmp → ℕ → ℕ
cut_reply h p one another x =
    unwrap_or (lowest_parting h (without_set p one) (first_end_of h x) (second_end_of h x) another)
    (lowest_free_edge h p)

-- it is the side's turn in a switching game that goes on
pub record IsSwitchingTurn (g : Game) (p : Position) (side : Side) : Type 0 where
  pub switching : g.kind ≡ Switching
  pub position : IsPosition g p
  pub going : is_over g p ≡ false
  pub turn : p.turn ≡ side

-- the other side has just taken x, and before that the fact held
pub record HeldBefore (g : Game) (p : Position) (Held : Position → Type 0) (x : ℕ) : Type 0 where
  pub before : Position
  pub theirs : before.turn ≡ other p.turn
  pub within : x < point_count g
  pub free : is_free before x ≡ true
  pub leads : p ≡ after g before x
  pub held : Held before

-- the fact held before the last reply, and holds where there is none
abbrev pub HeldUntil : Game → Position → (Position → Type 0) → Option ℕ → Type 0
HeldUntil g p Held (Some x) = HeldBefore g p Held x
HeldUntil g p Held None = Held p

-- the edge is free, and after it the fact holds, with a first set that doesn't have e
pub record LeavesHeld (g : Game) (p : Position) (Held : Position → Type 0) (edge : ℕ)
    (first : FinSet nat_cmp) : Type 0 where
  pub within : edge < point_count g
  pub free : is_free p edge ≡ true
  pub holds : Held (after g p edge)
  pub without_e : contains first (point_count g) ≡ false

-- on a graph, Short's answer by trees is this edge, and leaves these sets
abbrev pub IsTreesAnswer : Field
    → Position
    → FinSet nat_cmp
    → FinSet nat_cmp
    → Option ℕ
    → Answered
    → Type 0
IsTreesAnswer (Lines f) p a1 a2 last answer = ⊥
IsTreesAnswer (OnGraph h) p a1 a2 last answer = answer ≡ trees_answer h p a1 a2 last

-- on a graph, Cut's answer by cuts is this edge, and leaves these sets
abbrev pub IsCutsAnswer : Field
    → Position
    → FinSet nat_cmp
    → FinSet nat_cmp
    → Option ℕ
    → Answered
    → Type 0
IsCutsAnswer (Lines f) p d1 d2 last answer = ⊥
IsCutsAnswer (OnGraph h) p d1 d2 last answer = answer ≡ cuts_answer h p d1 d2 last
