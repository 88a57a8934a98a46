-- The parts of the conditions on trees and on cuts.
use Rattle.std.specs.Prelude.{◌≡◌, ℕ, true, false}
use Rattle.pg_switch.specs.Prelude.{FinSet, contains, nat_cmp, ShareNone, Side, Graph, edge_count}
use Rattle.pg_switch.specs.Prelude.{JoinsEndsOf, IsBridge, Position, AreFreeWithE, AreFreeEdges}
use Rattle.pg_switch.specs.Prelude.{with_set, without_set}

-- disjoint sets of free edges, the first perhaps with e where the side is to move
pub record AreFreePair (h : Graph) (p : Position) (side : Side)
    (first second : FinSet nat_cmp) : Type 0 where
  pub first_free : AreFreeWithE h p side first
  pub second_free : AreFreeEdges h p second
  pub apart : ShareNone first second

-- X's edges with the one set join the terminals, and the ends of each member of the other
pub record JoinsOther (h : Graph) (p : Position) (one other : FinSet nat_cmp) : Type 0 where
  pub members : (f : ℕ) → contains other f ≡ true → JoinsEndsOf h (with_set p one) f
  pub terminals : JoinsEndsOf h (with_set p one) (edge_count h)

-- what is left without the one set has each member of the other as a bridge, and e unless it is in
-- the one set
pub record BridgesOther (h : Graph) (p : Position) (one other : FinSet nat_cmp) : Type 0 where
  pub members : (f : ℕ) → contains other f ≡ true → IsBridge h (without_set p one) f
  pub terminals : contains one (edge_count h) ≡ false
      → IsBridge h (without_set p one) (edge_count h)
