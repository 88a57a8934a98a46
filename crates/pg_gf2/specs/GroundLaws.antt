-- The laws of a ground of vectors.
use Rattle.std.proofs.Common.{◌≡◌, ℕ, ◌<◌, ◌≤◌, ◌+◌, Bool, zero, suc, List, [], ◌∷◌, length, refl}
use Rattle.std.proofs.Common.{arith}
use Rattle.pg_gf2.specs.Prelude.{IsBelow, IsSpan}
use Rattle.pg_base.specs.declared.limits.TheConstants.{MAX_MEMBERS}
use Rattle.pg_gf2.specs.declared.game.TheConstants.{MAX_VECTORS}
use Rattle.pg_gf2.specs.Vectors.{vector_at, vector_spans, spans_over}
use Rattle.pg_gf2.specs.SumLemmas.{IsSpan-sums}
use Rattle.pg_graph.proofs.Bases.{IsSpan-over}

-- past its end a list of vectors has zeros
pub vector_at-past : (vectors : List ℕ) (k : ℕ) → length vectors ≤ k → vector_at vectors k ≡ 0
unfolding vector_at
vector_at-past [] zero l = refl
vector_at-past [] (suc k) l = refl
vector_at-past (w ∷ vectors) zero l = absurd (omega arith)
vector_at-past (w ∷ vectors) (suc k) l = vector_at-past vectors k (omega arith)

pub IsSpan-vectors : (vectors : List ℕ) → IsSpan (vector_spans vectors)
IsSpan-vectors vectors = IsSpan-sums (vector_at vectors) (length vectors) (vector_at-past vectors)

pub IsSpan-over_vectors : (vectors : List ℕ) (x : ℕ → Bool) → IsSpan (spans_over vectors x)
IsSpan-over_vectors vectors x = IsSpan-over (vector_spans vectors) (IsSpan-vectors vectors) x

pub small_vectors : (vectors : List ℕ) (set : ℕ → Bool)
    → length vectors ≤ MAX_VECTORS + 1
    → IsBelow set (length vectors)
    → IsBelow set MAX_MEMBERS
small_vectors vectors set few small z k = let low : z < length vectors = small z k in omega arith
