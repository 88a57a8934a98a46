-- Trees of vertices: each vertex has a parent, and a root is its own parent.
use Rattle.std.specs.Prelude.{◌≡◌, ℕ, ◌<◌, ◌≤◌, zero, suc, List, slice_index, length}

-- where n steps to parents lead from v
unfoldable pub climb : List ℕ → ℕ → ℕ → ℕ
climb parents zero v = v
climb parents (suc n) v = climb parents n (slice_index parents v)

-- the root above v
unfoldable pub root_of : List ℕ → ℕ → ℕ
root_of parents v = climb parents (length parents) v

-- no parent is a greater number
abbrev pub IsUpward : List ℕ → Type 0
IsUpward parents = (v : ℕ) → v < length parents → slice_index parents v ≤ v

-- the roots are the same
abbrev pub SameRoots : List ℕ → List ℕ → Type 0
SameRoots old new = (w : ℕ) → w < length old → root_of new w ≡ root_of old w
