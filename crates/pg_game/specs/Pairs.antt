-- Pairs of free points of which the claimer needs one each (Hales and Jewett's pairing, at any
-- position).
use Rattle.std.specs.Prelude.{◌≡◌, ◌≢◌, ℕ, ◌<◌, Bool, true, false, not, ◌&&◌, ◌||◌, ◌==◌, List, []}
use Rattle.std.specs.Prelude.{◌∷◌, length, Option, Some, None, find, filter, unwrap_or}
use Rattle.std.specs.Prelude.{if◌then◌else◌}
use Rattle.pg_game.specs.Prelude.{All, Any, AllPairs, Contains, list_any, option_or, FinSet}
use Rattle.pg_game.specs.Prelude.{nat_cmp, Kind, AvoiderEnforcer, Side, X, Y}
use Rattle.pg_base.specs.declared.pair.Pair.{Pair}
use Rattle.pg_game.specs.declared.game.Game.{Game}
use Rattle.pg_game.specs.declared.position.Position.{Position}
use Rattle.pg_game.specs.Position.{is_free, points_of}
use Rattle.pg_game.specs.Game.{lines_of, point_count, is_touched, free_points, lowest_free}

-- ---- pairs

-- whether both points are free
abbrev pub is_open : Position → Pair → Bool
is_open p s = is_free p s.a && is_free p s.b

-- whether the point is one of the two
abbrev pub has_point : ℕ → Pair → Bool
has_point v s = s.a == v || s.b == v

-- whether the point is in one of the pairs
abbrev pub is_paired : List Pair → ℕ → Bool
is_paired pairs v = list_any (has_point v) pairs

-- two points of the game
abbrev pub IsInGame : Game → Pair → Type 0
IsInGame g s = (s.a < point_count g) × (s.b < point_count g)

-- no point of the one is a point of the other
pub record SharesNone (s t : Pair) : Type 0 where
  pub aa : s.a ≢ t.a
  pub ab : s.a ≢ t.b
  pub ba : s.b ≢ t.a
  pub bb : s.b ≢ t.b

-- the line holds both points
abbrev pub HoldsPair : List ℕ → Pair → Type 0
HoldsPair line s = Contains line s.a × Contains line s.b

-- the pairs are of free points of the game, all different
pub record AreOpenPairs (g : Game) (p : Position) (pairs : List Pair) : Type 0 where
  pub range : All (IsInGame g) pairs
  pub free : All (λ s. is_open p s ≡ true) pairs
  pub different : All (λ s. s.a ≢ s.b) pairs
  pub disjoint : AllPairs SharesNone pairs

-- ---- the condition

-- the side whose points make a line harmless to the claimer: the claimer itself, but Enforcer where
-- Avoider claims
abbrev pub breaker_of : Kind → Side → Side
breaker_of AvoiderEnforcer side = Y
breaker_of _ side = side

-- a line without one of the points holds both points of some pair
abbrev pub IsSafe : FinSet nat_cmp → List Pair → List ℕ → Type 0
IsSafe own pairs line = is_touched own line ≡ false → Any (HoldsPair line) pairs

-- every line meant, that is one without a point of the side that makes lines harmless, holds both
-- points of some pair
abbrev pub HoldLines : Game → Position → Side → List Pair → Type 0
HoldLines g p side pairs = All (IsSafe (points_of p (breaker_of g.kind side)) pairs) (lines_of g)

-- the free points that are in no pair
abbrev pub unpaired : Game → Position → List Pair → List ℕ
unpaired g p pairs = filter (λ v. not (is_paired pairs v)) (free_points g p)

-- how many free points Avoider may leave in no pair: one where Avoider is to move, none where
-- Enforcer is
abbrev pub unpaired_due : Side → ℕ
unpaired_due X = 1
unpaired_due Y = 0

-- in Avoider-Enforcer Enforcer claims one point a turn, and all free points are in pairs, but one
-- where Avoider is to move
pub record PairsLeaveNone (g : Game) (p : Position) (pairs : List Pair) : Type 0 where
  pub single : g.bias ≡ 1
  pub left_out : length (unpaired g p pairs) ≡ unpaired_due p.turn

-- The pairs are of free points, all different, every line meant holds both points of some pair, and
-- in Avoider-Enforcer they leave no point out but as due.
pub record PairsHold (g : Game) (p : Position) (side : Side) (pairs : List Pair) : Type 0 where
  pub apart : AreOpenPairs g p pairs
  pub held : HoldLines g p side pairs
  pub avoider : g.kind ≡ AvoiderEnforcer → PairsLeaveNone g p pairs

-- ---- the answer

-- the other point of a pair that has the point
abbrev pub other_point : ℕ → Pair → Option ℕ
other_point v s = if s.a == v then Some s.b else (if s.b == v then Some s.a else None)

-- the partner of a point in the first pair that has it
abbrev pub partner : List Pair → ℕ → Option ℕ
partner [] v = None
partner (s ∷ pairs) v = option_or (other_point v s) (partner pairs v)

-- a point that is free
abbrev pub if_free : Position → Option ℕ → Option ℕ
if_free p None = None
if_free p (Some v) = if is_free p v then Some v else None

-- the free partner of the last reply
abbrev pub free_partner : Position → List Pair → Option ℕ → Option ℕ
free_partner p pairs None = None
free_partner p pairs (Some v) = if_free p (partner pairs v)

-- whether the point is in no pair whose two points are both free
abbrev pub is_loose : Position → List Pair → ℕ → Bool
is_loose p pairs v = not (list_any (λ s. is_open p s && has_point v s) pairs)

-- the free partner of the last reply, else the lowest free point in no open pair, else the lowest
-- free point
unfoldable pub pairs_answer : Game → Position → List Pair → Option ℕ → ℕ
pairs_answer g p pairs last = unwrap_or (option_or (free_partner p pairs last)
    (option_or (find (is_loose p pairs) (free_points g p)) (lowest_free g p))) 0
