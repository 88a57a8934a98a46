-- The sets of a class in a game of spanning e, at two positions that differ by the side to move
-- alone.
use Rattle.std.specs.Prelude.{◌≡◌, ℕ, Bool, true, not}
use Rattle.pg_lehman.specs.Prelude.{contains, below, either, plus, Position, AreSpanTrees}
use Rattle.pg_lehman.specs.Prelude.{AreSpanCuts}
use Rattle.pg_lehman.specs.declared.class.Class.{Class}
use Rattle.pg_lehman.specs.declared.class.Class.TheVariants.{Short, Cut, First}

-- the numbers below n that are in neither set, and e, which is the number n
unfoldable pub free_with_e : (ℕ → Bool) → (ℕ → Bool) → ℕ → ℕ → Bool
free_with_e x y n = plus (below (λ f. not (either x y f)) n) n

-- trees or cuts with X and with Y to move, or trees with X to move and cuts with Y to move, each
-- with e
abbrev pub SpanSetsHold : ((ℕ → Bool) → ℕ → Bool) → ℕ → Position → Position → Class → Type 0
SpanSetsHold spans n x_to_move y_to_move (Short a1 a2) =
    AreSpanTrees spans n x_to_move a1 a2 × AreSpanTrees spans n y_to_move a1 a2
SpanSetsHold spans n x_to_move y_to_move (Cut d1 d2) =
    AreSpanCuts spans n x_to_move d1 d2 × AreSpanCuts spans n y_to_move d1 d2
SpanSetsHold spans n x_to_move y_to_move (First a1 a2 d1 d2) = AreSpanTrees spans n x_to_move a1 a2
    × AreSpanCuts spans n y_to_move d1 d2
    × (contains a1 n ≡ true)
    × (contains d1 n ≡ true)
