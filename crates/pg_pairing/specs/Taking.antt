-- One pair after another put to those that are taken.
use Rattle.std.specs.Prelude.{◌≡◌, ◌≢◌, ℕ, ◌<◌, false}
use Rattle.pg_pairing.specs.Prelude.{FinSet, contains, nat_cmp, Pair}

-- both points of the pair are points of the game, different, and not among those that are taken
pub record CanTake (points : ℕ) (taken : FinSet nat_cmp) (s : Pair) : Type 0 where
  pub a_range : s.a < points
  pub b_range : s.b < points
  pub different : s.a ≢ s.b
  pub a_fresh : contains taken s.a ≡ false
  pub b_fresh : contains taken s.b ≡ false
