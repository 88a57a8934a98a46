-- The rest of the pairs: those whose two points are both free.
use Rattle.std.specs.Prelude.{◌≡◌, ◌≢◌, ℕ, ◌<◌, true, List, Option, Some, None, filter}
use Rattle.pg_pairing.specs.Prelude.{All, AllPairs, Kind, AvoiderEnforcer, MakerBreaker, Pair, Side}
use Rattle.pg_pairing.specs.Prelude.{X, other, Game, Position, is_free, point_count, after, is_open}
use Rattle.pg_pairing.specs.Prelude.{IsInGame, SharesNone, PairsHold}

-- the pairs are of points of the game, all different
pub record ArePairsOf (g : Game) (pairs : List Pair) : Type 0 where
  pub range : All (IsInGame g) pairs
  pub different : All (λ s. s.a ≢ s.b) pairs
  pub disjoint : AllPairs SharesNone pairs

-- the pairs whose two points are both free
abbrev pub rest : Position → List Pair → List Pair
rest p pairs = filter (is_open p) pairs

-- the rest of the pairs holds
abbrev pub RestHolds : Game → Position → Side → List Pair → Type 0
RestHolds g p side pairs = PairsHold g p side (rest p pairs)

-- a side that claims by pairs: in Avoider-Enforcer it is Avoider
abbrev pub MayClaim : Kind → Side → Type 0
MayClaim kind side = kind ≡ AvoiderEnforcer → side ≡ X

-- the other side has just made the last reply, and the rest of the pairs held before it
pub record HeldBefore (g : Game) (p : Position) (side : Side) (pairs : List Pair)
    (last : Option ℕ) : Type 0 where
  pub before : Position
  pub reply : ℕ
  pub last_is : last ≡ Some reply
  pub theirs : before.turn ≡ other side
  pub within : reply < point_count g
  pub free : is_free before reply ≡ true
  pub leads : p ≡ after g before reply
  pub held : RestHolds g before side pairs

-- with the side to move, the rest of the pairs holds after its point: if it held before the last
-- reply, if there was no reply and it holds, and in Maker-Breaker whenever it holds
pub record KeepsRest (g : Game) (p : Position) (pairs : List Pair) (last : Option ℕ)
    (v : ℕ) : Type 0 where
  pub replied : (side : Side)
      → MayClaim g.kind side
      → p.turn ≡ side
      → HeldBefore g p side pairs last
      → RestHolds g (after g p v) side pairs
  pub unreplied : (side : Side)
      → MayClaim g.kind side
      → p.turn ≡ side
      → last ≡ None
      → RestHolds g p side pairs
      → RestHolds g (after g p v) side pairs
  pub in_turn : (side : Side)
      → g.kind ≡ MakerBreaker
      → p.turn ≡ side
      → RestHolds g p side pairs
      → RestHolds g (after g p v) side pairs
