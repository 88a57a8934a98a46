-- Threat lines: attacks that each force one reply, up to a filled line.
use Rattle.std.specs.Prelude.{◌≡◌, ◌⊎◌, ℕ, zero, suc, ◌<◌, ◌≤◌, ◌/◌, Bool, true, false, not, ◌&&◌}
use Rattle.std.specs.Prelude.{◌||◌, ◌==◌, List, [], ◌∷◌, length}
use Rattle.pg_game.specs.Prelude.{list_any, list_all, contains, Kind, MakerBreaker, MakerMaker}
use Rattle.pg_game.specs.Prelude.{AvoiderEnforcer, Switching, Side, X, Y, other}
use Rattle.pg_game.specs.declared.game.Game.{Game}
use Rattle.pg_game.specs.declared.position.Position.{Position}
use Rattle.pg_game.specs.Position.{is_free, points_of}
use Rattle.pg_game.specs.Game.{lines_of, point_count, free_points, has_filled, is_over, after}
use Rattle.pg_game.specs.Game.{IsPosition}
use Rattle.pg_game.specs.Potential.{is_on}

-- whether all points of the line are the side's but u, which is on it and free
abbrev pub is_near : Position → Side → List ℕ → ℕ → Bool
is_near p side line u =
    is_free p u && (is_on u line && list_all (λ q. q == u || contains (points_of p side) q) line)

-- whether some line has all points the side's but the free point u
abbrev pub threatens : Game → Position → Side → ℕ → Bool
threatens g p side u = list_any (λ line. is_near p side line u) (lines_of g)

-- whether some line has all points the side's but one free one
abbrev pub has_threat : Game → Position → Side → Bool
has_threat g p side = list_any (λ line. list_any (is_near p side line) line) (lines_of g)

-- whether the side of a game of the kind wins by filling a line: Maker, and in Maker-Maker either
-- side
abbrev pub may_attack : Kind → Side → Bool
may_attack MakerBreaker X = true
may_attack MakerBreaker Y = false
may_attack MakerMaker side = true
may_attack AvoiderEnforcer side = false
may_attack Switching side = false

-- an attack takes a free point of the game
pub record IsAttack (g : Game) (p : Position) (v : ℕ) : Type 0 where
  pub range : v < point_count g
  pub free : is_free p v ≡ true

-- An attack that fills no line, and the reply u that it forces: some line has all points the
-- attacker's but the free point u, and in Maker-Maker the defender has no threat of its own.
pub record Forcing (g : Game) (p : Position) (side : Side) (v u : ℕ) : Type 0 where
  pub attack : IsAttack g p v
  pub fills_none : has_filled g (after g p v) side ≡ false
  pub threat : threatens g (after g p v) side u ≡ true
  pub safe : g.kind ≡ MakerMaker → has_threat g (after g p v) (other side) ≡ false

-- an attack that fills a line: the last one
pub record Filling (g : Game) (p : Position) (side : Side) (v : ℕ) : Type 0 where
  pub attack : IsAttack g p v
  pub fills : has_filled g (after g p v) side ≡ true

-- the attacks and forced replies of the list, one after the other, end in an attack that fills a
-- line
abbrev pub LeadsToLine : Game → Position → Side → List ℕ → Type 0
LeadsToLine g p side [] = ⊥
LeadsToLine g p side (v ∷ []) = Filling g p side v
LeadsToLine g p side (v ∷ (u ∷ others)) =
    Forcing g p side v u × LeadsToLine g (after g (after g p v) u) side others

-- The game isn't over, the attacker is to move, each side claims one point a turn, and the list
-- leads to a filled line.
pub record IsThreatLine (g : Game) (p : Position) (side : Side) (points : List ℕ) : Type 0 where
  pub single : g.bias ≡ 1
  pub going : is_over g p ≡ false
  pub turn : p.turn ≡ side
  pub leads : LeadsToLine g p side points

-- the depth: how many replies a threat line forces
abbrev pub depth_of : List ℕ → ℕ
depth_of points = length points / 2

-- ---- what holds along a threat line

-- the attacker has filled no line, and in Maker-Maker the other side none either
pub record IsUnfilled (g : Game) (p : Position) (side : Side) : Type 0 where
  pub mine : has_filled g p side ≡ false
  pub theirs : g.kind ≡ MakerMaker → has_filled g p (other side) ≡ false

-- the attacker is to move
pub record IsAttacking (g : Game) (p : Position) (side : Side) : Type 0 where
  pub position : IsPosition g p
  pub turn : p.turn ≡ side
  pub unfilled : IsUnfilled g p side

-- ---- the threat line of least depth that comes first

-- whether the first list comes before the other in the order of lists, or is it: the number at the
-- first place where they differ is smaller, or the other list goes on from it
abbrev pub ComesFirst : List ℕ → List ℕ → Type 0
ComesFirst [] others = Unit {0}
ComesFirst (v ∷ points) [] = ⊥
ComesFirst (v ∷ points) (w ∷ others) = (v < w) ⊎ ((v ≡ w) × ComesFirst points others)

-- a threat line of least depth, and among these the first in the order of lists
pub record IsFirstThreatLine (g : Game) (p : Position) (side : Side)
    (points : List ℕ) : Type 0 where
  pub line : IsThreatLine g p side points
  pub least : (others : List ℕ) → IsThreatLine g p side others → depth_of points ≤ depth_of others
  pub first : (others : List ℕ)
      → IsThreatLine g p side others
      → depth_of others ≡ depth_of points
      → ComesFirst points others

-- every threat line is deeper
abbrev pub AreDeeper : Game → Position → Side → ℕ → Type 0
AreDeeper g p side depth =
    (points : List ℕ) → IsThreatLine g p side points → depth < depth_of points

-- ---- whether there is a threat line

-- whether the defender, too, wins by filling a line, so that no attack may leave it a threat of its
-- own: only in Maker-Maker
abbrev pub is_race : Kind → Bool
is_race MakerMaker = true
is_race MakerBreaker = false
is_race AvoiderEnforcer = false
is_race Switching = false

-- whether an attack at the free point v fills no line and forces the reply u
unfoldable pub is_forcing : Game → Position → Side → ℕ → ℕ → Bool
is_forcing g p side v u = not (has_filled g (after g p v) side)
    && (threatens g (after g p v) side u
    && not (is_race g.kind && has_threat g (after g p v) (other side)))

-- whether some attack fills a line
unfoldable pub can_fill : Game → Position → Side → Bool
can_fill g p side = list_any (λ v. has_filled g (after g p v) side) (free_points g p)

-- whether attacks and at most so many forced replies lead to a filled line
unfoldable pub leads_within : ℕ → Game → Position → Side → Bool
leads_within zero g p side = can_fill g p side
leads_within (suc depth) g p side = can_fill g p side
    || list_any (λ v.
    list_any (λ u. is_forcing g p side v u && leads_within depth g (after g (after g p v) u) side)
    (free_points g (after g p v))) (free_points g p)

-- whether the side to move has a threat line of at most that depth
unfoldable pub has_threat_line : ℕ → Game → Position → Bool
has_threat_line depth g p = g.bias == 1 && (not (is_over g p) && leads_within depth g p p.turn)
