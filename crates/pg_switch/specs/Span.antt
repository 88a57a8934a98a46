-- Connectivity games: Maker (X) wants his edges to join every two vertices, and Breaker (Y) that
-- the edges which aren't his don't; and the conditions on trees and on parts.
use Rattle.std.specs.Prelude.{◌≡◌, ◌<◌, ◌≤◌, ◌+◌, ◌*◌, ℕ, zero, suc, Bool, true, false, not, ◌&&◌}
use Rattle.std.specs.Prelude.{◌||◌, ◌==◌, Option, Some, None, ⊤}
use Rattle.pg_switch.specs.Prelude.{FinSet, contains, insert, nat_cmp, ShareNone, below, either}
use Rattle.pg_switch.specs.Prelude.{count, Side, X, Y, IsJoined, joins, Position, is_free, Rules}
use Rattle.pg_switch.specs.Claims.{claim_rules}

-- ---- the vertices are the numbers below n; edge k below m has the ends a k and b k

-- whether the edges of the set join u with each vertex below k
unfoldable pub joins_below : (ℕ → ℕ) → (ℕ → ℕ) → ℕ → (ℕ → Bool) → ℕ → ℕ → Bool
joins_below a b m set u zero = true
joins_below a b m set u (suc k) = joins a b set m u k && joins_below a b m set u k

-- whether the edges of the set join every two vertices, the first of them below k
unfoldable pub joins_pairs : (ℕ → ℕ) → (ℕ → ℕ) → ℕ → ℕ → (ℕ → Bool) → ℕ → Bool
joins_pairs a b m n set zero = true
joins_pairs a b m n set (suc k) = joins_below a b m set k n && joins_pairs a b m n set k

-- whether the edges of the set join every two vertices
abbrev pub joins_all : (ℕ → ℕ) → (ℕ → ℕ) → ℕ → ℕ → (ℕ → Bool) → Bool
joins_all a b m n set = joins_pairs a b m n set n

-- the same by walks
abbrev pub AreAllJoined : (ℕ → ℕ) → (ℕ → ℕ) → ℕ → ℕ → (ℕ → Bool) → Type 0
AreAllJoined a b m n set = (u v : ℕ) → u < n → v < n → IsJoined a b (below set m) u v

-- X wants to join every two vertices by its edges, which are the points
abbrev pub connectivity_rules : (ℕ → ℕ) → (ℕ → ℕ) → ℕ → ℕ → Rules
connectivity_rules a b m n = claim_rules m (joins_all a b m n)

-- ---- parts: each vertex has a number, and those with one number are a part

-- whether some vertex below n has this number
unfoldable pub image : (ℕ → ℕ) → ℕ → ℕ → Bool
image label zero v = false
image label (suc u) v = (label u == v) || image label u v

-- whether the ends of the edge have different numbers
abbrev pub crosses : (ℕ → ℕ) → (ℕ → ℕ) → (ℕ → ℕ) → ℕ → Bool
crosses a b label f = not (label (a f) == label (b f))

-- how many edges of the set, of those below m, cross
abbrev pub crossing : (ℕ → ℕ) → (ℕ → ℕ) → ℕ → (ℕ → ℕ) → (ℕ → Bool) → ℕ
crossing a b m label set = count (λ f. set f && crosses a b label f) m

-- with Y to move, one free edge more may cross
abbrev pub spare : Side → ℕ
spare X = 0
spare Y = 1

-- With q parts, by different numbers below a bound, X needs q - 1 edges that cross. It has at most
-- q - 2, and so few are free that it doesn't get enough by every other one.
pub record AreParts (a b : ℕ → ℕ) (m n bound : ℕ) (label : ℕ → ℕ) (p : Position) : Type 0 where
  pub few_taken : crossing a b m label (contains p.x) + 2 ≤ count (image label n) bound
  pub few_free : crossing a b m label (is_free p) + 2 * crossing a b m label (contains p.x) + 4
      ≤ 2 * count (image label n) bound + spare p.turn

-- ---- trees

-- the edges that X has, and the one that it claims first
abbrev pub with_first : Position → Option ℕ → ℕ → Bool
with_first p None = contains p.x
with_first p (Some v) = contains (insert p.x v)

-- the edge that is claimed first is free and in neither set, and X is to move
abbrev pub IsFirst : ℕ → Position → FinSet nat_cmp → FinSet nat_cmp → Option ℕ → Type 0
IsFirst m p a1 a2 None = ⊤
IsFirst m p a1 a2 (Some v) = (v < m)
    × (is_free p v ≡ true)
    × (contains a1 v ≡ false)
    × (contains a2 v ≡ false)
    × (p.turn ≡ X)

-- Disjoint sets of free edges: with X's edges, and the one that is claimed first, each joins every
-- two vertices.
pub record AreJoiningTrees (a b : ℕ → ℕ) (m n : ℕ) (p : Position) (first : Option ℕ)
    (a1 a2 : FinSet nat_cmp) : Type 0 where
  pub first_claimed : IsFirst m p a1 a2 first
  pub one_free : (f : ℕ) → contains a1 f ≡ true → (f < m) × (is_free p f ≡ true)
  pub two_free : (f : ℕ) → contains a2 f ≡ true → (f < m) × (is_free p f ≡ true)
  pub apart : ShareNone a1 a2
  pub one_joins : joins_all a b m n (either (with_first p first) (contains a1)) ≡ true
  pub two_joins : joins_all a b m n (either (with_first p first) (contains a2)) ≡ true
