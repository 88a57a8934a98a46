-- Trees for Short and cuts for Cut in the switching game, with the edge e between the terminals
-- (Lehman 1964 and its dual, by walks alone), and the answers by them.
use Rattle.std.specs.Prelude.{◌≡◌, ◌⊎◌, ℕ, ◌<◌, Bool, true, false, not, ◌&&◌, Option, Some, None}
use Rattle.std.specs.Prelude.{find, unwrap_or, if◌then◌else◌}
use Rattle.pg_game.specs.Prelude.{range_with_len, FinSet, contains, remove, nat_cmp, ShareNone}
use Rattle.pg_game.specs.Prelude.{minus, either, outside, Side, X, Y, Graph, edge_count}
use Rattle.pg_game.specs.Prelude.{first_end_of, second_end_of, joins_in, JoinsEndsOf, IsBridge}
use Rattle.pg_game.specs.declared.field.Field.{Field}
use Rattle.pg_game.specs.declared.field.Field.TheVariants.{Lines, Graph as OnGraph}
use Rattle.pg_game.specs.declared.game.Game.{Game}
use Rattle.pg_game.specs.declared.position.Position.{Position}
use Rattle.pg_game.specs.Position.{is_free}

-- ---- members

-- a free edge of the graph
abbrev pub IsFreeEdge : Graph → Position → ℕ → Type 0
IsFreeEdge h p f = (f < edge_count h) × (is_free p f ≡ true)

-- each member is a free edge
abbrev pub AreFreeEdges : Graph → Position → FinSet nat_cmp → Type 0
AreFreeEdges h p set = (f : ℕ) → contains set f ≡ true → IsFreeEdge h p f

-- each member is a free edge, or e where the side is to move
abbrev pub AreFreeWithE : Graph → Position → Side → FinSet nat_cmp → Type 0
AreFreeWithE h p side set =
    (f : ℕ) → contains set f ≡ true → IsFreeEdge h p f ⊎ ((f ≡ edge_count h) × (p.turn ≡ side))

-- ---- trees: s is the edges that X has

-- what s and the first set join
abbrev pub with_set : Position → FinSet nat_cmp → ℕ → Bool
with_set p a = either (contains p.x) (contains a)

-- Disjoint sets of free edges, the first perhaps with e where X is to move: with X's edges each
-- joins the ends of the other's members, and the terminals.
pub record AreTrees (h : Graph) (p : Position) (a1 a2 : FinSet nat_cmp) : Type 0 where
  pub first_free : AreFreeWithE h p X a1
  pub second_free : AreFreeEdges h p a2
  pub apart : ShareNone a1 a2
  pub first : (f : ℕ) → contains a2 f ≡ true → JoinsEndsOf h (with_set p a1) f
  pub first_joins : JoinsEndsOf h (with_set p a1) (edge_count h)
  pub second : (f : ℕ) → contains a1 f ≡ true → JoinsEndsOf h (with_set p a2) f
  pub second_joins : JoinsEndsOf h (with_set p a2) (edge_count h)

-- the same of a game on a graph
abbrev pub TreesHoldOn : Field → Position → FinSet nat_cmp → FinSet nat_cmp → Type 0
TreesHoldOn (Lines f) p a1 a2 = ⊥
TreesHoldOn (OnGraph h) p a1 a2 = AreTrees h p a1 a2

abbrev pub TreesHold : Game → Position → FinSet nat_cmp → FinSet nat_cmp → Type 0
TreesHold g p a1 a2 = TreesHoldOn g.field p a1 a2

-- ---- cuts: r is the edges that Y doesn't have, with e

-- r without a set
abbrev pub without_set : Position → FinSet nat_cmp → ℕ → Bool
without_set p d = outside (λ f. not (contains p.y f)) (contains d)

-- Disjoint sets of free edges, the first perhaps with e where Y is to move: in what is left of r
-- without the one set each member of the other, and e, is a bridge.
pub record AreCuts (h : Graph) (p : Position) (d1 d2 : FinSet nat_cmp) : Type 0 where
  pub first_free : AreFreeWithE h p Y d1
  pub second_free : AreFreeEdges h p d2
  pub apart : ShareNone d1 d2
  pub first : (f : ℕ) → contains d2 f ≡ true → IsBridge h (without_set p d1) f
  pub first_parts : contains d1 (edge_count h) ≡ false
      → IsBridge h (without_set p d1) (edge_count h)
  pub second : (f : ℕ) → contains d1 f ≡ true → IsBridge h (without_set p d2) f
  pub second_parts : IsBridge h (without_set p d2) (edge_count h)

-- the same of a game on a graph
abbrev pub CutsHoldOn : Field → Position → FinSet nat_cmp → FinSet nat_cmp → Type 0
CutsHoldOn (Lines f) p d1 d2 = ⊥
CutsHoldOn (OnGraph h) p d1 d2 = AreCuts h p d1 d2

abbrev pub CutsHold : Game → Position → FinSet nat_cmp → FinSet nat_cmp → Type 0
CutsHold g p d1 d2 = CutsHoldOn g.field p d1 d2

-- ---- the answers

-- a claimed edge, and the two sets that are left
pub record Answered : Type 0 where
  pub edge : ℕ
  pub first : FinSet nat_cmp
  pub second : FinSet nat_cmp

-- the edge, which leaves the sets with x
abbrev pub claimed : ℕ → ℕ → FinSet nat_cmp → FinSet nat_cmp → Answered
claimed edge x first second = record {
  edge = edge;
  first = remove (remove first x) edge;
  second = remove (remove second x) edge;
}

-- the lowest free edge
abbrev pub lowest_free_edge : Graph → Position → ℕ
lowest_free_edge h p = unwrap_or (find (is_free p) (range_with_len 0 (edge_count h))) 0

-- whether exactly one of two tests holds
abbrev pub differ : Bool → Bool → Bool
differ true b = not b
differ false b = b

-- the lowest candidate with exactly one end joined to u in the set
abbrev pub lowest_crossing : Graph → (ℕ → Bool) → ℕ → FinSet nat_cmp → Option ℕ
lowest_crossing h set u candidates = find (λ k. contains candidates k
    && differ (joins_in h set u (first_end_of h k)) (joins_in h set u (second_end_of h k)))
    (range_with_len 0 (edge_count h))

-- the lowest candidate without which the set doesn't join u and v, where it does
abbrev pub lowest_parting : Graph → (ℕ → Bool) → ℕ → ℕ → FinSet nat_cmp → Option ℕ
lowest_parting h set u v candidates = if joins_in h set u v
    then find (λ k. contains candidates k && not (joins_in h (minus set k) u v))
    (range_with_len 0 (edge_count h))
    else None

-- the edge that is answered: the last reply, or e before any
abbrev pub answered_edge : Graph → Option ℕ → ℕ
answered_edge h (Some x) = x
answered_edge h None = edge_count h

-- Short's edge: where x was in the one set, the lowest of the other with exactly one end joined to
-- the first end of x by X's edges and the rest of the one, else the lowest free edge
abbrev pub short_edge : Graph → Position → FinSet nat_cmp → FinSet nat_cmp → ℕ → ℕ
short_edge h p a1 a2 x = if contains a1 x
    then unwrap_or (lowest_crossing h (with_set p (remove a1 x)) (first_end_of h x) a2)
    (lowest_free_edge h p)
    else (if contains a2 x
    then unwrap_or (lowest_crossing h (with_set p (remove a2 x)) (first_end_of h x) a1)
    (lowest_free_edge h p)
    else lowest_free_edge h p)

-- Short's answer by trees, after which x and the claimed edge have left the sets
unfoldable pub trees_answer : Graph
    → Position
    → FinSet nat_cmp
    → FinSet nat_cmp
    → Option ℕ
    → Answered
trees_answer h p a1 a2 last =
    let x = answered_edge h last in
    claimed (short_edge h p a1 a2 x) x a1 a2

-- Cut's edge: where x was in the one set and its ends are joined in r without that set, the lowest
-- of the other whose removal parts them there, else the lowest free edge
abbrev pub cut_edge : Graph → Position → FinSet nat_cmp → FinSet nat_cmp → ℕ → ℕ
cut_edge h p d1 d2 x = if contains d1 x
    then unwrap_or (lowest_parting h (without_set p d1) (first_end_of h x) (second_end_of h x) d2)
    (lowest_free_edge h p)
    else (if contains d2 x
    then unwrap_or (lowest_parting h (without_set p d2) (first_end_of h x) (second_end_of h x) d1)
    (lowest_free_edge h p)
    else lowest_free_edge h p)

-- Cut's answer by cuts, after which x and the claimed edge have left the sets
unfoldable pub cuts_answer : Graph
    → Position
    → FinSet nat_cmp
    → FinSet nat_cmp
    → Option ℕ
    → Answered
cuts_answer h p d1 d2 last = let x = answered_edge h last in claimed (cut_edge h p d1 d2 x) x d1 d2
