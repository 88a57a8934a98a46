-- Labels of vertices: one for the vertices that are joined.
use Rattle.std.specs.Prelude.{◌≡◌, ◌≢◌, ℕ, ◌<◌, ◌⊎◌, ◌==◌, ◌↔◌, Bool, true, cond, List, length}
use Rattle.std.specs.Prelude.{slice_index}
use Rattle.pg_graph.specs.Walks.{IsJoined}
use Rattle.pg_graph.specs.declared.graph.Graph.{Graph}
use Rattle.pg_graph.specs.Graph.{first_end_of, second_end_of, joins_in}
use Rattle.pg_graph.specs.Roots.{root_of, IsUpward}

-- the roots of u and v, one of them hi and the other lo, are now both lo, and the other roots stay
pub record IsMerged (old new : List ℕ) (u v : ℕ) : Type 0 where
  pub lo : ℕ
  pub hi : ℕ
  pub ends : ((root_of old u ≡ lo) × (root_of old v ≡ hi))
      ⊎ ((root_of old u ≡ hi) × (root_of old v ≡ lo))
  pub roots : (w : ℕ)
      → w < length old
      → root_of new w ≡ cond (root_of old w == hi) lo (root_of old w)

-- two vertices have one root just where the edges of the set join them
pub record IsLabelling (a b : ℕ → ℕ) (set : ℕ → Bool) (parents : List ℕ) : Type 0 where
  pub upward : IsUpward parents
  pub same : (u v : ℕ)
      → u < length parents
      → v < length parents
      → (root_of parents u ≡ root_of parents v) ↔ IsJoined a b set u v

-- the two ends of edge k have one root
abbrev pub HaveOneRoot : Graph → List ℕ → ℕ → Type 0
HaveOneRoot g parents k = root_of parents (first_end_of g k) ≡ root_of parents (second_end_of g k)

-- exactly one of two labels is this one
abbrev pub IsSplit : ℕ → ℕ → ℕ → Type 0
IsSplit first second label =
    ((first ≡ label) × (second ≢ label)) ⊎ ((first ≢ label) × (second ≡ label))

-- a label below the number of vertices for each vertex: two have the same one just where edges of
-- the set join them
pub record AreLabels (g : Graph) (set : ℕ → Bool) (names : List ℕ) : Type 0 where
  pub size : length names ≡ g.vertices
  pub range : (v : ℕ) → v < g.vertices → slice_index names v < g.vertices
  pub same : (u v : ℕ)
      → u < g.vertices
      → v < g.vertices
      → (slice_index names u ≡ slice_index names v) ↔ (joins_in g set u v ≡ true)
