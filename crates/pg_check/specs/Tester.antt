-- What a tester is made for.
use Rattle.std.specs.Prelude.{◌≡◌, ℕ, ◌<◌, List, bit_and, get_or, nat_lt}
use Rattle.std.specs.Int.{bit_not, w64}
use Rattle.pg_check.specs.Prelude.{FinSet, contains, nat_cmp, point_count, Game, IsMadeForGame}
use Rattle.pg_check.specs.Prelude.{room_of, AreMasksOf}
use Rattle.pg_check.specs.declared.tester.Tester.{Tester}

-- the set holds just the points of the game
abbrev pub ArePointsOf : FinSet nat_cmp → Game → Type 0
ArePointsOf s g = (v : ℕ) → contains s v ≡ nat_lt v (point_count g)

-- no word of the first n of either list has a bit that the other list's lacks
abbrev pub AreInside : List ℕ → List ℕ → List ℕ → ℕ → Type 0
AreInside first second inside n = (i : ℕ)
    → i < n
    → (bit_and (get_or first i 0) (bit_not w64 (get_or inside i 0)) ≡ 0)
    × (bit_and (get_or second i 0) (bit_not w64 (get_or inside i 0)) ≡ 0)

-- the judge is made for the game, and so is the joiner where it is on a graph; the points are the
-- game's, and the masks are its lines
pub record IsReadyFor (t : Tester) (g : Game) : Type 0 where
  pub judge : IsMadeForGame t.judge g
  pub joiner : IsMadeForGame (room_of t.joiner) g
  pub points : ArePointsOf t.points g
  pub masks : AreMasksOf g t.masks.items
