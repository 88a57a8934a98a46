-- Stars of labels: the edges with an end that has the label.
use Rattle.std.specs.Prelude.{◌≡◌, ◌⊎◌, ◌<◌, ◌↔◌, ◌==◌, ◌||◌, ℕ, Bool, true, false, suc, List}
use Rattle.std.specs.Prelude.{length, slice_index_or}
use Rattle.pg_exchange.specs.Prelude.{FinSet, nat_cmp, contains, empty, outside, IsWithin, Graph}
use Rattle.pg_exchange.specs.Prelude.{edge_count}
use Rattle.pg_exchange.specs.Path.{first_label, second_label, IsLabelled, IsReachedBoth}

-- the star of a label, which has no edge past the last one
abbrev pub star_of : List (FinSet nat_cmp) → ℕ → ℕ → Bool
star_of stars p = contains (slice_index_or stars p empty)

-- whether an end of edge k has the label
unfoldable pub has_end : Graph → List ℕ → ℕ → ℕ → Bool
has_end g names p k = (first_label g names k == p) || (second_label g names k == p)

-- the star of each label has just the edges below n with an end that has the label
pub record AreStars (g : Graph) (names : List ℕ) (n : ℕ)
    (stars : List (FinSet nat_cmp)) : Type 0 where
  pub size : length stars ≡ g.vertices
  pub star : (p k : ℕ)
      → p < g.vertices
      → (star_of stars p k ≡ true) ↔ ((k < n) × (has_end g names p k ≡ true))

-- a set has just what is in the stars of the labels
pub record IsGathered (stars : List (FinSet nat_cmp)) (labels set : ℕ → Bool) : Type 0 where
  pub all : (p k : ℕ) → labels p ≡ true → star_of stars p k ≡ true → set k ≡ true
  pub only : (k : ℕ) → set k ≡ true → (p : ℕ) × (labels p ≡ true) × (star_of stars p k ≡ true)

-- each vertex has a label, and each label its star
pub record AreStarred (g : Graph) (names : List ℕ) (stars : List (FinSet nat_cmp)) : Type 0 where
  pub labelled : IsLabelled g names
  pub at_labels : AreStars g names (suc (edge_count g)) stars

-- a search that has reached these labels, the fresh ones last, has these members left: what isn't
-- left has both ends reached, and so has each member with an end that was reached earlier
pub record IsRound (a b : ℕ → ℕ) (base left reached fresh : ℕ → Bool) : Type 0 where
  pub last : IsWithin fresh reached
  pub fewer : IsWithin left base
  pub done : (k : ℕ) → base k ≡ true → left k ≡ false → IsReachedBoth reached (a k) (b k)
  pub settled : (k : ℕ)
      → base k ≡ true
      → (outside reached fresh (a k) ≡ true) ⊎ (outside reached fresh (b k) ≡ true)
      → IsReachedBoth reached (a k) (b k)
