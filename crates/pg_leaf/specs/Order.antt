-- The order in which moves are gone through, as places in a list of moves, each of which is a point
-- with something beside it.
use Rattle.std.specs.Prelude.{◌≡◌, ◌≢◌, ℕ, ◌<◌, ◌≤◌, ◌⊎◌, List, Some, length, slice_get}
use Rattle.pg_leaf.specs.Prelude.{Contains, MAX_POINTS}
use Rattle.pg_leaf.specs.declared.order.Order.{Order}

-- the move at the place goes to the point
abbrev pub IsPlaceOf : List (ℕ × ℕ) → ℕ → ℕ → Type 0
IsPlaceOf moves k v = (beside : ℕ) × (slice_get moves k ≡ Some (v, beside))

-- the list has the place of a move to the point
abbrev pub HasPlaceOf : List (ℕ × ℕ) → List ℕ → ℕ → Type 0
HasPlaceOf moves order v = (k : ℕ) × Contains order k × IsPlaceOf moves k v

-- Different places of moves, and of each point below 256 to which a move goes one place, if there
-- are at most 65,535 moves: so all places, where the points are different and below 256.
pub record IsOrder (moves : List (ℕ × ℕ)) (order : List ℕ) : Type 0 where
  pub range : (k : ℕ) → Contains order k → k < length moves
  pub different : (i j k : ℕ) → slice_get order i ≡ Some k → slice_get order j ≡ Some k → i ≡ j
  pub all : length moves ≤ 65535
      → (k v : ℕ) → IsPlaceOf moves k v
      → v < MAX_POINTS
      → HasPlaceOf moves order v

-- ---- while moves are taken

-- the point has a place that is still to come
abbrev pub IsToCome : List ℕ → ℕ → Type 0
IsToCome left v = (k : ℕ) × (slice_get left v ≡ Some k) × (k ≢ 65535)

-- The members so far, and for each point the place of the move to it that is still to come, or
-- 65,535.
pub record IsTaking (moves : List (ℕ × ℕ)) (members left : List ℕ) : Type 0 where
  pub range : (k : ℕ) → Contains members k → k < length moves
  pub different : (i j k : ℕ) → slice_get members i ≡ Some k → slice_get members j ≡ Some k → i ≡ j
  pub from : (v k : ℕ) → slice_get left v ≡ Some k → k ≢ 65535 → IsPlaceOf moves k v
  pub gone : (k v : ℕ) → Contains members k → IsPlaceOf moves k v → slice_get left v ≡ Some 65535
  pub all : length moves ≤ 65535
      → (k v : ℕ) → IsPlaceOf moves k v
      → v < MAX_POINTS
      → IsToCome left v ⊎ HasPlaceOf moves members v

-- what goes along while moves are taken
pub record Takes (old new : Order) : Type 0 where
  pub keeps : (moves : List (ℕ × ℕ))
      → IsTaking moves old.members.items old.left
      → IsTaking moves new.members.items new.left
  pub gone : (v : ℕ) → slice_get old.left v ≡ Some 65535 → slice_get new.left v ≡ Some 65535
