-- Maps of a game's points onto themselves that take its lines onto its lines, the maps of its board
-- that do so, and the images of positions.
use Rattle.std.specs.Prelude.{◌≡◌, ◌≢◌, ℕ, ◌<◌, List, map, Option, Some, None}
use Rattle.pg_maps.specs.Prelude.{AllPairs, Contains, IsPermutation, FinSet, contains, from_list}
use Rattle.pg_maps.specs.Prelude.{nat_cmp, Grid, Pair, points_below, members, Field, Lines, Game}
use Rattle.pg_maps.specs.Prelude.{Position, point_count, lines_of}
use Rattle.pg_graph.specs.declared.graph.Graph.{Graph}
use Rattle.pg_game.specs.declared.field.Field.TheVariants.{Graph as OnGraph}
use Rattle.pg_maps.specs.declared.grid_map.GridMap.{GridMap}
use Rattle.pg_maps.specs.GridMaps.{IsMapOf, number_of, image_of, identity}

-- ---- maps of the points of a game

-- f and back take numbers below n to numbers below n, and undo one another there
pub record AreInverse (n : ℕ) (f back : ℕ → ℕ) : Type 0 where
  pub range : (v : ℕ) → v < n → f v < n
  pub back_range : (v : ℕ) → v < n → back v < n
  pub undone : (v : ℕ) → v < n → back (f v) ≡ v
  pub redone : (v : ℕ) → v < n → f (back v) ≡ v

-- the image of a line: the images of its points, in ascending order
abbrev pub image_line : (ℕ → ℕ) → ℕ → List ℕ → List ℕ
image_line f n line = points_below (from_list (map f line)) n

-- the images of the lines are the lines in another order, each as often as it stands there
abbrev pub AreSameLines : (ℕ → ℕ) → ℕ → List (List ℕ) → Type 0
AreSameLines f n lines = IsPermutation (map (image_line f n) lines) lines

-- f takes the points of the game onto its points, as back undoes, and its lines onto its lines; on
-- a graph every edge stays
pub record IsAutomorphism (g : Game) (f back : ℕ → ℕ) : Type 0 where
  pub points : AreInverse (point_count g) f back
  pub lines : AreSameLines f (point_count g) (lines_of g)
  pub edges : (h : Graph) → g.field ≡ OnGraph h → (v : ℕ) → f v ≡ v

-- ---- maps of its board

-- the board whose cells the points are, where they are
abbrev pub board_of : Field → Option Grid
board_of (Lines f) = f.grid
board_of (OnGraph h) = None

-- a map of the board; without one, the map that leaves every point
abbrev pub IsMapOn : Option Grid → GridMap → Type 0
IsMapOn None m = m ≡ identity
IsMapOn (Some grid) m = IsMapOf grid m

-- what it does to the points
abbrev pub image_on : Option Grid → GridMap → ℕ → ℕ
image_on None m v = v
image_on (Some grid) m v = image_of m grid v

-- it is a map of the game's board, and takes the game's lines onto its lines
pub record Fits (g : Game) (m : GridMap) : Type 0 where
  pub is_map : IsMapOn (board_of g.field) m
  pub lines : AreSameLines (image_on (board_of g.field) m) (point_count g) (lines_of g)

-- the maps that fit of those whose number is below k, by their numbers, ascending
pub record AreFitting (g : Game) (k : ℕ) (maps : List GridMap) : Type 0 where
  pub fit : (m : GridMap) → Contains maps m → Fits g m
  pub before : (m : GridMap) → Contains maps m → number_of m < k
  pub all : (m : GridMap) → Fits g m → number_of m < k → Contains maps m
  pub ascending : AllPairs (λ a b. number_of a < number_of b) maps

-- a map fits that isn't the one of number 0
pub record HasSymmetry (g : Game) : Type 0 where
  pub map : GridMap
  pub fits : Fits g map
  pub other : number_of map ≢ 0

-- ---- images

-- q has the images of p's points, with the same side to move and as many points left of its turn
pub record IsImage (g : Game) (f : ℕ → ℕ) (p q : Position) : Type 0 where
  pub x : (v : ℕ) → v < point_count g → contains q.x (f v) ≡ contains p.x v
  pub y : (v : ℕ) → v < point_count g → contains q.y (f v) ≡ contains p.y v
  pub turn : q.turn ≡ p.turn
  pub left : q.left ≡ p.left

-- the image of a pair
abbrev pub image_pair : (ℕ → ℕ) → Pair → Pair
image_pair f s = record { a = f s.a; b = f s.b }

-- the image of a set of points, and of a position
abbrev pub image_set : (ℕ → ℕ) → FinSet nat_cmp → FinSet nat_cmp
image_set f s = from_list (map f (members s))

abbrev pub image_position : (ℕ → ℕ) → Position → Position
image_position f p = record {
  x = image_set f p.x;
  y = image_set f p.y;
  turn = p.turn;
  left = p.left;
}
