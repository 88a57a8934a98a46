-- What a joiner is made for, and what its calls look for.
use Rattle.std.specs.Prelude.{◌≡◌, ℕ, ◌<◌, Bool, true, not, ◌&&◌, ◌||◌, zero, suc, ◌⊎◌}
use Rattle.std.specs.Prelude.{if◌then◌else◌}
use Rattle.pg_base.specs.Sets.{plus, minus, either, IsBelow}
use Rattle.pg_graph.specs.Graph.{edge_count, IsJoinedIn, joins_in, spans_in, first_end_of}
use Rattle.pg_graph.specs.Graph.{second_end_of}
use Rattle.pg_graph.specs.declared.graph.Graph.{Graph}

-- the numbers of vertices and edges of the graphs that a joiner serves
pub record Room : Type 0 where
  pub vertices : ℕ
  pub edges : ℕ

-- the joiner has room for just this graph
pub record IsMadeFor (room : Room) (g : Graph) : Type 0 where
  pub vertices : room.vertices ≡ g.vertices
  pub edges : room.edges ≡ edge_count g

-- no number of the set is above that of e
abbrev pub AreEdges : Graph → (ℕ → Bool) → Type 0
AreEdges g set = IsBelow set (suc (edge_count g))

-- the same of two sets
pub record AreBothEdges (g : Graph) (first second : ℕ → Bool) : Type 0 where
  pub first_range : AreEdges g first
  pub second_range : AreEdges g second

-- u and v are vertices
pub record AreVertices (g : Graph) (u v : ℕ) : Type 0 where
  pub first_range : u < g.vertices
  pub second_range : v < g.vertices

-- exactly one end of edge k is joined to u
abbrev pub Crosses : Graph → (ℕ → Bool) → ℕ → ℕ → Type 0
Crosses g set u k =
    (IsJoinedIn g set u (first_end_of g k) × (IsJoinedIn g set u (second_end_of g k) → ⊥))
    ⊎ ((IsJoinedIn g set u (first_end_of g k) → ⊥) × IsJoinedIn g set u (second_end_of g k))

-- whether exactly one end of edge k is joined to u
unfoldable pub crosses : Graph → (ℕ → Bool) → ℕ → ℕ → Bool
crosses g set u k =
    (joins_in g set u (first_end_of g k) && not (joins_in g set u (second_end_of g k)))
    || (not (joins_in g set u (first_end_of g k)) && joins_in g set u (second_end_of g k))

-- the set joins u and v, and without its edge k it doesn't
pub record Parts (g : Graph) (set : ℕ → Bool) (u v k : ℕ) : Type 0 where
  pub member : set k ≡ true
  pub joined : IsJoinedIn g set u v
  pub parted : IsJoinedIn g (minus set k) u v → ⊥

-- whether the set joins u and v, and without its edge k doesn't
unfoldable pub parts : Graph → (ℕ → Bool) → ℕ → ℕ → ℕ → Bool
parts g set u v k = set k && (joins_in g set u v && not (joins_in g (minus set k) u v))

-- the lowest candidate of which the fact is true
pub record IsLowest (candidates : ℕ → Bool) (Fact : ℕ → Type 0) (k : ℕ) : Type 0 where
  pub candidate : candidates k ≡ true
  pub fact : Fact k
  pub lowest : (j : ℕ) → j < k → candidates j ≡ true → Fact j → ⊥

-- what is there, and k where it is a candidate whose ends the edges of the set and of what is there
-- don't join
unfoldable pub with_candidate : Graph → (ℕ → Bool) → (ℕ → Bool) → (ℕ → Bool) → ℕ → ℕ → Bool
with_candidate g set candidates there k =
    if candidates k && not (spans_in g (either set there) k) then plus there k else there

-- the base with the candidates below a number, each in its turn, whose ends the edges of the set
-- and of what is there by then don't join
unfoldable pub extended : Graph → (ℕ → Bool) → (ℕ → Bool) → (ℕ → Bool) → ℕ → ℕ → Bool
extended g set candidates base zero = base
extended g set candidates base (suc k) =
    with_candidate g set candidates (extended g set candidates base k) k
