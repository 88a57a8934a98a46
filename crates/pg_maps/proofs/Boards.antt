-- The maps of a game's board that fit it.
use Rattle.std.proofs.Common.{◌≡◌, ℕ, ◌*◌, Option, Some, None, map, refl, sym, ap, ◌∙◌, subst}
use Rattle.pg_maps.proofs.Common.{false≢true, All-weaker, All, IsPermutation, Grid, Field, Lines}
use Rattle.pg_maps.proofs.Common.{Game, field_points, IsLineOf, point_count, lines_of, lines-fit}
use Rattle.std.proofs.lemmas.Option.{none-some}
use Rattle.pg_game.specs.declared.field.Field.TheVariants.{Graph as OnGraph}
use Rattle.pg_maps.specs.declared.grid_map.GridMap.{GridMap}
use Rattle.pg_maps.specs.GridMaps.{IsMapOf, numbered, number_of, image_of, identity, followed_by}
use Rattle.pg_maps.specs.GridMaps.{reverse_of}
use Rattle.pg_maps.specs.Images.{AreInverse, image_line, AreSameLines, IsAutomorphism, Fits}
use Rattle.pg_maps.specs.Images.{board_of, IsMapOn, image_on}
use Rattle.pg_maps.specs.Rows.{IsRow}
use Rattle.pg_maps.proofs.ImageLines.{image_line-same, map-each, AreSameLines-itself}
use Rattle.pg_maps.proofs.ImageLines.{AreSameLines-followed, AreSameLines-back}
use Rattle.pg_maps.proofs.Numbers.{numbered-number}
use Rattle.pg_maps.proofs.Turning.{AreInverse-map, image-followed, image-identity, IsMapOf-followed}
use Rattle.pg_maps.proofs.Turning.{IsMapOf-reverse}

-- ---- with a board and without one

IsMapOn-reverse : (board : Option Grid) (m : GridMap)
    → IsMapOn board m
    → IsMapOn board (reverse_of m)
IsMapOn-reverse None m is = ap reverse_of is
IsMapOn-reverse (Some grid) m is = IsMapOf-reverse grid m is

IsMapOn-followed : (board : Option Grid) (a b : GridMap)
    → IsMapOn board a
    → IsMapOn board b
    → IsMapOn board (followed_by a b)
IsMapOn-followed None a b first second = λ i. followed_by (first i) (second i)
IsMapOn-followed (Some grid) a b first second = IsMapOf-followed grid a b first second

pub IsMapOn-identity : (board : Option Grid) → IsMapOn board identity
IsMapOn-identity None = refl
IsMapOn-identity (Some grid) = λ on. absurd (false≢true on)

pub image_on-identity : (board : Option Grid) (v : ℕ) → image_on board identity v ≡ v
image_on-identity None v = refl
image_on-identity (Some grid) v = image-identity grid v

image_on-followed : (board : Option Grid) (a b : GridMap) (v : ℕ)
    → IsMapOn board a
    → IsMapOn board b
    → image_on board b (image_on board a v) ≡ image_on board (followed_by a b) v
image_on-followed None a b v first second = refl
image_on-followed (Some grid) a b v first second = image-followed grid a b v first second

-- a board has as many cells as the game has points
abbrev HasCells : Option Grid → ℕ → Type 0
HasCells board n = (grid : Grid) → board ≡ Some grid → grid.width * grid.height ≡ n

pub cells : (g : Game) (grid : Grid)
    → board_of g.field ≡ Some grid
    → grid.width * grid.height ≡ point_count g
cells g grid has = by g.field refl has
  where
    by : (field : Field)
        → g.field ≡ field
        → board_of field ≡ Some grid
        → grid.width * grid.height ≡ point_count g
    by (Lines rows) e has = (g.fits.within.on_lines rows e).cells grid has ∙ sym (ap field_points e)
    by (OnGraph board) e has = absurd (none-some grid has)

AreInverse-on : (board : Option Grid) (n : ℕ) (m : GridMap)
    → HasCells board n
    → IsMapOn board m
    → AreInverse n (image_on board m) (image_on board (reverse_of m))
AreInverse-on None n m enough is = record {
  range = λ v lt. lt;
  back_range = λ v lt. lt;
  undone = λ v lt. refl;
  redone = λ v lt. refl;
}
AreInverse-on (Some grid) n m enough is =
    subst (λ n. AreInverse n (image_of m grid) (image_of (reverse_of m) grid)) (enough grid refl)
    (AreInverse-map grid m is)

-- ---- the maps that fit a game

pub AreInverse-fits : (g : Game) (m : GridMap)
    → IsMapOn (board_of g.field) m
    → AreInverse (point_count g) (image_on (board_of g.field) m)
    (image_on (board_of g.field) (reverse_of m))
AreInverse-fits g m is = AreInverse-on (board_of g.field) (point_count g) m (cells g) is

pub rows : (g : Game) → All (IsRow (point_count g)) (lines_of g)
rows g = All-weaker (IsLineOf (point_count g) g.bias) (IsRow (point_count g)) (λ line is. record {
  up = is.ascending;
  below = is.range;
}) (lines_of g) (lines-fit g)

-- a map of the board that fits is an automorphism of the game
pub IsAutomorphism-fits : (g : Game) (m : GridMap)
    → Fits g m
    → IsAutomorphism g (image_on (board_of g.field) m) (image_on (board_of g.field) (reverse_of m))
IsAutomorphism-fits g m h = record {
  points = AreInverse-fits g m h.is_map;
  lines = h.lines;
  edges = λ graph e v. ap (λ (field : Field). image_on (board_of field) m v) e;
}

-- the map that leaves every point fits
pub Fits-identity : (g : Game) → Fits g identity
Fits-identity g = record {
  is_map = IsMapOn-identity (board_of g.field);
  lines = AreSameLines-itself (image_on (board_of g.field) identity) (point_count g) (lines_of g)
      (λ v lt. image_on-identity (board_of g.field) v) (rows g);
}

-- without a board only that map fits
pub Fits-none : (g : Game) (m : GridMap) → board_of g.field ≡ None → number_of m ≡ 0 → Fits g m
Fits-none g m none same =
    subst (Fits g) (ap numbered (sym same) ∙ numbered-number m) (Fits-identity g)

pub none-Fits : (g : Game) (m : GridMap) → board_of g.field ≡ None → Fits g m → number_of m ≡ 0
none-Fits g m none h =
    let is : m ≡ identity = subst (λ (board : Option Grid). IsMapOn board m) none h.is_map in
    ap number_of is

-- on a board a map of it fits where it takes the lines onto the lines
pub Fits-some : (g : Game) (grid : Grid) (m : GridMap)
    → board_of g.field ≡ Some grid
    → IsMapOf grid m
    → AreSameLines (image_of m grid) (point_count g) (lines_of g)
    → Fits g m
Fits-some g grid m has is same = record {
  is_map = subst (λ (board : Option Grid). IsMapOn board m) (sym has) is;
  lines =
      subst (λ (board : Option Grid). AreSameLines (image_on board m) (point_count g) (lines_of g))
      (sym has) same;
}

pub some-Fits : (g : Game) (grid : Grid) (m : GridMap)
    → board_of g.field ≡ Some grid
    → Fits g m
    → AreSameLines (image_of m grid) (point_count g) (lines_of g)
some-Fits g grid m has h =
    subst (λ (board : Option Grid). AreSameLines (image_on board m) (point_count g) (lines_of g))
    has h.lines

-- what undoes a map that fits, fits
pub Fits-reverse : (g : Game) (m : GridMap) → Fits g m → Fits g (reverse_of m)
Fits-reverse g m h = record {
  is_map = IsMapOn-reverse (board_of g.field) m h.is_map;
  lines =
      AreSameLines-back (image_on (board_of g.field) m) (image_on (board_of g.field) (reverse_of m))
      (point_count g) (lines_of g) (AreInverse-fits g m h.is_map) (rows g) h.lines;
}

-- one map that fits and then another is one that fits
pub Fits-followed : (g : Game) (a b : GridMap) → Fits g a → Fits g b → Fits g (followed_by a b)
Fits-followed g a b h k = record {
  is_map = IsMapOn-followed (board_of g.field) a b h.is_map k.is_map;
  lines = subst (λ images. IsPermutation images (lines_of g)) same
      (AreSameLines-followed (image_on (board_of g.field) a)
      (image_on (board_of g.field) (reverse_of a)) (image_on (board_of g.field) b) (point_count g)
      (lines_of g) (AreInverse-fits g a h.is_map) (rows g) h.lines k.lines);
}
  where
    both : ℕ → ℕ
    both v = image_on (board_of g.field) b (image_on (board_of g.field) a v)

    same : map (image_line both (point_count g)) (lines_of g) ≡ map
        (image_line (image_on (board_of g.field) (followed_by a b)) (point_count g)) (lines_of g)
    same = map-each (image_line both (point_count g))
        (image_line (image_on (board_of g.field) (followed_by a b)) (point_count g)) (lines_of g)
        (All-weaker (IsRow (point_count g)) (λ line. image_line both (point_count g) line
        ≡ image_line (image_on (board_of g.field) (followed_by a b)) (point_count g) line)
        (λ line row. image_line-same both (image_on (board_of g.field) (followed_by a b))
        (point_count g) line (λ v lt. image_on-followed (board_of g.field) a b v h.is_map k.is_map)
        row.below) (lines_of g) (rows g))
