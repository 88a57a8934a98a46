-- Edges join every two vertices where walks do.
use Rattle.std.proofs.Common.{◌≡◌, ℕ, ◌<◌, ◌≤◌, zero, suc, Bool, true, refl, ◌∙◌, arith}
use Rattle.std.specs.Prelude.{◌↔◌, IsTrue}
use Rattle.pg_switch.proofs.Common.{and_from, below, joins, joins-below, joins_sound}
use Rattle.pg_switch.proofs.Common.{joins_complete}
use Rattle.pg_switch.specs.Span.{joins_below, joins_pairs, joins_all, AreAllJoined}
use Rattle.pg_switch.proofs.PartLemmas.{joined_pairs}

module _ (a b : ℕ → ℕ) (m n : ℕ) (set : ℕ → Bool) where
  below_from_each : ((u v : ℕ) → u < n → v < n → joins a b set m u v ≡ true)
      → (u k : ℕ) → u < n
      → k ≤ n
      → joins_below a b m set u k ≡ true
  unfolding joins_below
  below_from_each each u zero lu l = refl
  below_from_each each u (suc k) lu l =
      and_from _ _ (each u k lu (omega arith)) (below_from_each each u k lu (omega arith))

  pairs_from_each : ((u v : ℕ) → u < n → v < n → joins a b set m u v ≡ true)
      → (k : ℕ) → k ≤ n
      → joins_pairs a b m n set k ≡ true
  unfolding joins_pairs
  pairs_from_each each zero l = refl
  pairs_from_each each (suc k) l = and_from _ _
      (below_from_each each k n (omega arith) (omega arith)) (pairs_from_each each k (omega arith))

  pub joins_all-from : ((u v : ℕ) → u < n → v < n → joins a b set m u v ≡ true)
      → joins_all a b m n set ≡ true
  joins_all-from each = pairs_from_each each n (omega arith)

  pub joins_all-iff : IsTrue (joins_all a b m n set) ↔ AreAllJoined a b m n set
  joins_all-iff = (
    λ all u v lu lv. joins_sound a b (below set m) m u v
        (joins-below a b set m u v ∙ joined_pairs a b set (λ z. z) n 0 m n u v all lu lv),
    λ walks. joins_all-from (λ u v lu lv. joins_complete a b set m u v (walks u v lu lv)),
  )
