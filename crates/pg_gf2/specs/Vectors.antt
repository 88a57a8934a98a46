-- Vectors over two elements, as numbers that are added bit by bit without carry, and what sets of
-- them span.
use Rattle.std.specs.Prelude.{◌≡◌, ℕ, zero, suc, Bool, ◌&&◌, ◌||◌, ◌==◌, if◌then◌else◌, List}
use Rattle.std.specs.Prelude.{length, slice_index_or, bit_xor}
use Rattle.pg_gf2.specs.Prelude.{IsWithin, either, outside, Matroid}

-- the sum of the vectors of the set whose numbers are below n
unfoldable pub total : (ℕ → ℕ) → (ℕ → Bool) → ℕ → ℕ
total v set zero = 0
total v set (suc k) = if set k then bit_xor (total v set k) (v k) else total v set k

-- t is the sum of some vectors of the set, whose numbers are below n
pub record IsSum (v : ℕ → ℕ) (set : ℕ → Bool) (n t : ℕ) : Type 0 where
  pub some : ℕ → Bool
  pub within : IsWithin some set
  pub sums : total v some n ≡ t

-- whether t is the sum of some vectors of the set whose numbers are below n
unfoldable pub is_sum : (ℕ → ℕ) → (ℕ → Bool) → ℕ → ℕ → Bool
is_sum v set zero t = t == 0
is_sum v set (suc k) t = is_sum v set k t || (set k && is_sum v set k (bit_xor t (v k)))

-- the members of just one of two sets
unfoldable pub differ : (ℕ → Bool) → (ℕ → Bool) → ℕ → Bool
differ a b = either (outside a b) (outside b a)

-- vector f of a list, and zero past its end
unfoldable pub vector_at : List ℕ → ℕ → ℕ
vector_at vectors f = slice_index_or vectors f 0

-- whether vector f of the list is the sum of some vectors of the set
abbrev pub vector_spans : List ℕ → (ℕ → Bool) → ℕ → Bool
vector_spans vectors set f = is_sum (vector_at vectors) set (length vectors) (vector_at vectors f)

-- what elements span together with the vectors of x
abbrev pub vector_matroid : List ℕ → (ℕ → Bool) → (ℕ → Bool) → Matroid
vector_matroid vectors x elements =
    record { elements = elements; spans = λ a f. vector_spans vectors (either x a) f }

-- whether vector f is the sum of some vectors of x and of the set
abbrev pub spans_over : List ℕ → (ℕ → Bool) → (ℕ → Bool) → ℕ → Bool
spans_over vectors x a f = vector_spans vectors (either x a) f
