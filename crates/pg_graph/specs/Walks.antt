-- Walks along edges. Edge k has the ends a k and b k, and a set of edges is a test of their
-- numbers.
use Rattle.std.specs.Prelude.{◌≡◌, ℕ, Bool, true, ◌⊎◌, ◌&&◌, ◌||◌, ◌==◌, zero, suc, List, [], ◌∷◌}
use Rattle.std.specs.Prelude.{slice_index_or}

-- the edges of the list, each one of the set, walk from u to v
abbrev pub IsWalk : (ℕ → ℕ) → (ℕ → ℕ) → (ℕ → Bool) → List ℕ → ℕ → ℕ → Type 0
IsWalk a b set [] u v = u ≡ v
IsWalk a b set (k ∷ ks) u v = (set k ≡ true)
    × (((a k ≡ u) × IsWalk a b set ks (b k) v) ⊎ ((b k ≡ u) × IsWalk a b set ks (a k) v))

-- u and v are one vertex, or a list of edges of the set walks from u to v
pub record IsJoined (a b : ℕ → ℕ) (set : ℕ → Bool) (u v : ℕ) : Type 0 where
  pub edges : List ℕ
  pub walk : IsWalk a b set edges u v

-- whether the edges of the set that are below a number join u and v
unfoldable pub joins : (ℕ → ℕ) → (ℕ → ℕ) → (ℕ → Bool) → ℕ → ℕ → ℕ → Bool
joins a b set zero u v = u == v
joins a b set (suc k) u v = joins a b set k u v
    || (set k
    && ((joins a b set k u (a k) && joins a b set k (b k) v)
    || (joins a b set k u (b k) && joins a b set k (a k) v)))

-- whether the edges of the set that are below n join the ends of f: what edges span
unfoldable pub edge_spans : (ℕ → ℕ) → (ℕ → ℕ) → ℕ → (ℕ → Bool) → ℕ → Bool
edge_spans a b n set f = joins a b set n (a f) (b f)

-- the first end of edge k of a list
unfoldable pub first_end : List (ℕ × ℕ) → ℕ → ℕ
first_end ends k = (slice_index_or ends k (0, 0)).0

-- the second end of edge k of a list
unfoldable pub second_end : List (ℕ × ℕ) → ℕ → ℕ
second_end ends k = (slice_index_or ends k (0, 0)).1
