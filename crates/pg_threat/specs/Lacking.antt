-- The free points of lines of which a side lacks few points.
use Rattle.std.specs.Prelude.{◌≡◌, ℕ, ◌+◌, ◌-◌, ◌<◌, ◌≤◌, ◌==◌, Bool, true, false, not, ◌&&◌, List}
use Rattle.std.specs.Prelude.{length, take, Option, Some, None}
use Rattle.pg_threat.specs.Prelude.{Contains, list_any, count_by, FinSet, contains, nat_cmp, other}
use Rattle.pg_threat.specs.Prelude.{MakerMaker, Side, Game, Position, is_free, points_of, lines_of}
use Rattle.pg_threat.specs.Prelude.{is_touched, is_on, line_at}

-- whether the side has no point of the line
abbrev pub is_live : Position → Side → List ℕ → Bool
is_live p side line = not (is_touched (points_of p side) line)

-- how many points of the line the side has
abbrev pub own_count : Position → Side → List ℕ → ℕ
own_count p side line = count_by (contains (points_of p side)) line

-- whether the point is a free one of the line
abbrev pub is_open_on : Position → List ℕ → ℕ → Bool
is_open_on p line v = is_on v line && is_free p v

-- whether the side lacks so many points of the line, and the other side has none of it
unfoldable pub lacks : Position → Side → ℕ → List ℕ → Bool
lacks p side missing line =
    is_live p (other side) line && (own_count p side line + missing) == length line

-- whether the point is a free one of a line that the other side hasn't touched and of which the
-- side lacks so many
abbrev pub lacks_at : Position → Side → ℕ → ℕ → List ℕ → Bool
lacks_at p side missing v line = lacks p side missing line && is_open_on p line v

unfoldable pub is_lacking : Game → Position → Side → ℕ → ℕ → Bool
is_lacking g p side missing v = list_any (lacks_at p side missing v) (lines_of g)

-- whether another free point is on a line through the point that the other side hasn't touched and
-- of which the side lacks two
unfoldable pub is_partner : Game → Position → Side → ℕ → ℕ → Bool
is_partner g p side v u =
    not (u == v) && list_any (λ line. is_on v line && lacks_at p side 2 u line) (lines_of g)

-- whether the side lacks three points of the line, which the other side hasn't touched and which
-- misses the point
abbrev pub is_gained : Position → Side → ℕ → List ℕ → Bool
is_gained p side u line = lacks p side 3 line && not (is_on u line)

-- of a line that the other side hasn't touched and that misses the point, the side lacks more than
-- so many points
abbrev pub IsOutOfReach : Position → Side → ℕ → ℕ → List ℕ → Type 0
IsOutOfReach p side u most line =
    is_touched (points_of p (other side)) line ≡ false → is_on u line ≡ false
    → own_count p side line + most < length line

-- The attack at v, to which u is the reply, serves no list of less depth: no line through it that
-- misses the reply can be filled by one attack for each reply and two more, and in Maker-Maker no
-- line through it comes to lack the attack alone for the other side.
pub record IsIdle (g : Game) (p : Position) (side : Side) (v u depth : ℕ) : Type 0 where
  pub mine : (line : List ℕ) → Contains (lines_of g) line → is_on v line ≡ true
      → IsOutOfReach p side u (depth + 1) line
  pub theirs : g.kind ≡ MakerMaker → (line : List ℕ) → Contains (lines_of g) line
      → is_on v line ≡ true → own_count p (other side) line + depth ≤ length line

-- ---- a walk along the lines without a point of a side

-- no line from one number up to another is without a point of the side
abbrev pub NoneLive : Game → Position → Side → ℕ → ℕ → Type 0
NoneLive g p side from to = (j : ℕ) → from ≤ j → j < to → is_live p side (line_at g j) ≡ false

-- the first line from a number on that has no point of the side
pub record IsLiveAt (g : Game) (p : Position) (side : Side) (from k : ℕ) : Type 0 where
  pub from_on : from ≤ k
  pub within : k < length (lines_of g)
  pub live : is_live p side (line_at g k) ≡ true
  pub none_before : NoneLive g p side from k

-- the same, or none where there is none
abbrev pub IsNextLive : Game → Position → Side → ℕ → Option ℕ → Type 0
IsNextLive g p side from None = NoneLive g p side from (length (lines_of g))
IsNextLive g p side from (Some k) = IsLiveAt g p side from k

-- how far a walk along so many lines has come that goes on with this one
abbrev pub come_to : ℕ → Option ℕ → ℕ
come_to lines None = lines
come_to lines (Some k) = k

-- how many lines such a walk has before it
abbrev pub left_to : ℕ → Option ℕ → ℕ
left_to lines next = lines - come_to lines next

-- the set has the points that are lacked on the lines before, and the walk goes on with a line that
-- the other side hasn't touched
pub record IsScan (g : Game) (p : Position) (side : Side) (missing : ℕ) (points : FinSet nat_cmp)
    (next : Option ℕ) : Type 0 where
  pub before : (v : ℕ)
      → contains points v ≡ list_any (lacks_at p side missing v)
      (take (come_to (length (lines_of g)) next) (lines_of g))
  pub within : (k : ℕ)
      → next ≡ Some k
      → (k < length (lines_of g)) × (is_live p (other side) (line_at g k) ≡ true)

-- two of the first lines, of both of which the side lacks so many points, hold the free point
pub record IsLackedTwice (g : Game) (p : Position) (side : Side)
    (missing lines v : ℕ) : Type 0 where
  pub first : ℕ
  pub second : ℕ
  pub before : first < second
  pub within : second < lines
  pub on_first : lacks_at p side missing v (line_at g first) ≡ true
  pub on_second : lacks_at p side missing v (line_at g second) ≡ true

-- and all points that are lacked on two of those lines are in the second set
pub record IsScanTwice (g : Game) (p : Position) (side : Side) (missing : ℕ)
    (points twice : FinSet nat_cmp) (next : Option ℕ) : Type 0 where
  pub scan : IsScan g p side missing points next
  pub again : (v : ℕ)
      → IsLackedTwice g p side missing (come_to (length (lines_of g)) next) v
      → contains twice v ≡ true
