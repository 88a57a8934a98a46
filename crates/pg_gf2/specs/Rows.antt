-- Rows of an elimination: what is left of a vector after them, and the members of a base that they
-- are sums of.
use Rattle.std.specs.Prelude.{◌≡◌, ℕ, ◌<◌, Bool, true, ◌==◌, if◌then◌else◌, List, [], ◌∷◌, ◌++◌}
use Rattle.std.specs.Prelude.{length, get_or, bit_xor}
use Rattle.pg_gf2.specs.Prelude.{All, bit_at, FinSet, contains, nat_cmp, IsWithin}
use Rattle.pg_gf2.specs.Vectors.{total, is_sum, differ}
use Rattle.pg_gf2.specs.declared.row.Row.{Row}

-- the vector with the row added, where the row's bit is set
unfoldable pub step : Row → ℕ → ℕ
step row t = if bit_at t row.bit == 1 then bit_xor t row.value else t

-- what is left of the vector after each row in turn
unfoldable pub reduced : List Row → ℕ → ℕ
reduced [] t = t
reduced (row ∷ rows) t = reduced rows (step row t)

-- the row is the sum of its members, of the base, but for vectors of x
pub record IsRow (v : ℕ → ℕ) (n : ℕ) (x base : ℕ → Bool) (row : Row) : Type 0 where
  pub within : IsWithin (contains row.members) base
  pub sums : is_sum v x n (bit_xor row.value (total v (contains row.members) n)) ≡ true

abbrev pub AreRows : (ℕ → ℕ) → ℕ → (ℕ → Bool) → (ℕ → Bool) → List Row → Type 0
AreRows v n x base rows = All (IsRow v n x base) rows

-- t less what is left of it is the sum of members of the base, but for vectors of x
pub record IsTold (v : ℕ → ℕ) (n : ℕ) (x base : ℕ → Bool) (t left : ℕ)
    (members : ℕ → Bool) : Type 0 where
  pub within : IsWithin members base
  pub sums : is_sum v x n (bit_xor (bit_xor t left) (total v members n)) ≡ true

-- the rows are sums of members of the base, and reduce the vectors of a set to nothing
pub record IsEliminated (v : ℕ → ℕ) (n : ℕ) (x base done : ℕ → Bool)
    (rows : List Row) : Type 0 where
  pub told : AreRows v n x base rows
  pub gone : (g : ℕ) → done g ≡ true → reduced rows (v g) ≡ 0

-- one row more, with this value, these members and a bit that is set
pub record HasRow (rows more : List Row) (value : ℕ) (members : FinSet nat_cmp) : Type 0 where
  pub row : Row
  pub last : more ≡ rows ++ (row ∷ [])
  pub value_is : row.value ≡ value
  pub members_are : row.members ≡ members
  pub set : bit_at value row.bit ≡ 1

-- the same row, with members that differ by these where it has the member that goes
pub record IsTurned (out : ℕ) (changed : ℕ → Bool) (old new : Row) : Type 0 where
  pub bit : new.bit ≡ old.bit
  pub value : new.value ≡ old.value
  pub members : contains new.members ≡ (if contains old.members out
      then differ (contains old.members) changed
      else contains old.members)

pub record AreTurned (out : ℕ) (changed : ℕ → Bool) (old new : List Row) : Type 0 where
  pub count : length new ≡ length old
  pub each : (k : ℕ) (d : Row)
      → k < length old
      → IsTurned out changed (get_or old k d) (get_or new k d)
