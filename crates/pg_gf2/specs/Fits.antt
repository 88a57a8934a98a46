-- The limits of a game on vectors.
use Rattle.std.specs.Prelude.{ℕ, ◌<◌, ◌≤◌, ◌^◌, List, length}
use Rattle.pg_gf2.specs.Prelude.{All, FinSet, nat_cmp, AreBelow, ShareNone}
use Rattle.pg_gf2.specs.declared.game.TheConstants.{MAX_ROWS, MAX_VECTORS}

-- 1 to 128 rows, at most 1,000 vectors of so many signs, and sides with different vectors
pub record AreVectorParts (rows target : ℕ) (vectors : List ℕ) (x y : FinSet nat_cmp) : Type 0 where
  pub some_rows : 1 ≤ rows
  pub few_rows : rows ≤ MAX_ROWS
  pub few_vectors : length vectors ≤ MAX_VECTORS
  pub target_range : target < 2 ^ rows
  pub vectors_range : All (λ v. v < 2 ^ rows) vectors
  pub x_range : AreBelow x (length vectors)
  pub y_range : AreBelow y (length vectors)
  pub disjoint : ShareNone x y
