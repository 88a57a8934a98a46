-- Graphs with the edge e between their terminals, and what their edges join.
use Rattle.std.specs.Prelude.{ℕ, ◌<◌, ◌≤◌, suc, Bool, not, List, [], ◌∷◌, ◌++◌, length, All}
use Rattle.pg_base.specs.Sets.{minus}
use Rattle.pg_base.specs.declared.limits.TheConstants.{MAX_EDGES}
use Rattle.pg_graph.specs.Walks.{IsJoined, joins, edge_spans, first_end, second_end}
use Rattle.pg_graph.specs.declared.graph.Graph.{Graph}

-- not too many edges, and terminals and ends in range
pub record IsGraph (g : Graph) : Type 0 where
  pub few_edges : length g.ends ≤ MAX_EDGES
  pub s_range : g.s < g.vertices
  pub t_range : g.t < g.vertices
  pub ends_range : All (λ ends. (ends.0 < g.vertices) × (ends.1 < g.vertices)) g.ends

-- how many edges the graph has: the number that stands for e
abbrev pub edge_count : Graph → ℕ
edge_count g = length g.ends

-- the edges with one more, between s and t
unfoldable pub with_e : List (ℕ × ℕ) → ℕ → ℕ → List (ℕ × ℕ)
with_e ends s t = ends ++ ((s, t) ∷ [])

-- the first end of edge k, and s for e
unfoldable pub first_end_of : Graph → ℕ → ℕ
first_end_of g k = first_end (with_e g.ends g.s g.t) k

-- the second end of edge k, and t for e
unfoldable pub second_end_of : Graph → ℕ → ℕ
second_end_of g k = second_end (with_e g.ends g.s g.t) k

-- a walk of edges of the set, of which e may be one, leads from u to v
abbrev pub IsJoinedIn : Graph → (ℕ → Bool) → ℕ → ℕ → Type 0
IsJoinedIn g set u v = IsJoined (first_end_of g) (second_end_of g) set u v

-- the edges of the set join the ends of f
abbrev pub JoinsEndsOf : Graph → (ℕ → Bool) → ℕ → Type 0
JoinsEndsOf g set f = IsJoinedIn g set (first_end_of g f) (second_end_of g f)

-- whether the edges of the set, of which e may be one, join u and v
abbrev pub joins_in : Graph → (ℕ → Bool) → ℕ → ℕ → Bool
joins_in g set u v = joins (first_end_of g) (second_end_of g) set (suc (edge_count g)) u v

-- whether the edges of the set join the ends of f
abbrev pub spans_in : Graph → (ℕ → Bool) → ℕ → Bool
spans_in g set f = edge_spans (first_end_of g) (second_end_of g) (suc (edge_count g)) set f

-- the ends of f aren't joined in the set without f
abbrev pub IsBridge : Graph → (ℕ → Bool) → ℕ → Type 0
IsBridge g set f = JoinsEndsOf g (minus set f) f → ⊥

-- whether f is a bridge of the set
abbrev pub is_bridge : Graph → (ℕ → Bool) → ℕ → Bool
is_bridge g set f = not (joins_in g (minus set f) (first_end_of g f) (second_end_of g f))
