-- Images of positions of a game under maps of its board that fit.
use Rattle.std.proofs.Common.{◌≡◌, ℕ, ◌<◌, true, Option, Some, None, refl, sym, ap, ◌∙◌, subst}
use Rattle.std.proofs.Common.{arith}
use Rattle.pg_fold.proofs.Common.{contains, Grid, Side, IsTurn, IsNode, position_of, IsInGame, Node}
use Rattle.pg_fold.proofs.Common.{Game, Position, point_count, after, IsPosition, is_free, identity}
use Rattle.pg_fold.proofs.Common.{followed_by, reverse_of, IsAutomorphism, Fits, IsImage, IsMapOn}
use Rattle.pg_fold.proofs.Common.{board_of, image_on, image_position, GridMap, IsAutomorphism-fits}
use Rattle.pg_fold.proofs.Common.{Fits-followed, Fits-identity, Fits-reverse, image_on-identity}
use Rattle.pg_fold.proofs.Common.{IsImage-after, free-image, IsImage-position, IsPosition-image}
use Rattle.pg_fold.proofs.Common.{IsImage-unique, IsImage-further, IsImage-undone}
use Rattle.pg_fold.proofs.Common.{image_position-stays, image-followed}
use Rattle.pg_base.specs.declared.side.Side.TheVariants.{X, Y}
use Rattle.pg_game.proofs.Moves.{IsPosition-after}

-- what the map does to the points of the game's board, and to a position
abbrev pub points_by : Game → GridMap → ℕ → ℕ
points_by g m = image_on (board_of g.field) m

abbrev pub image_by : Game → GridMap → Position → Position
image_by g m p = image_position (points_by g m) p

-- ---- positions of nodes

-- the side to move of a turn claims a point
some_left : (turn : Side) (left : ℕ) → IsTurn turn left → 0 < left
some_left X left one = omega (arith, one)
some_left Y left several = several.0

-- the position of a node of the format that stands in the game is one of the game
pub node-position : (g : Game) (n : Node) → IsNode n → IsInGame g n → IsPosition g (position_of n)
node-position g n limits in_game = record {
  x_range = in_game.x;
  y_range = in_game.y;
  disjoint = limits.apart;
  some_left = some_left n.turn n.left limits.turn;
  few_left = in_game.left;
}

-- ---- images

module _ (g : Game) (m : GridMap) (fits : Fits g m) where
  pub onto : IsAutomorphism g (points_by g m) (points_by g (reverse_of m))
  onto = IsAutomorphism-fits g m fits

  pub image-of : (p : Position) → IsPosition g p → IsImage g (points_by g m) p (image_by g m p)
  image-of p is = IsImage-position g (points_by g m) (points_by g (reverse_of m))
      (IsAutomorphism-fits g m fits) p is

  pub image-is : (p : Position) → IsPosition g p → IsPosition g (image_by g m p)
  image-is p is = IsPosition-image g (points_by g m) (points_by g (reverse_of m))
      (IsAutomorphism-fits g m fits) p is

  -- the only image
  pub image-only : (p q : Position)
      → IsPosition g p
      → IsPosition g q
      → IsImage g (points_by g m) p q
      → q ≡ image_by g m p
  image-only p q is at h = IsImage-unique g (points_by g m) (points_by g (reverse_of m))
      (IsAutomorphism-fits g m fits) p q (image_by g m p) h (image-of p is) at (image-is p is)

  -- the image of the position after a move is that after the image of the move
  pub image-after : (p : Position) (v : ℕ)
      → IsPosition g p
      → v < point_count g
      → is_free p v ≡ true
      → image_by g m (after g p v) ≡ after g (image_by g m p) (points_by g m v)
  image-after p v is range free =
      let whole = IsAutomorphism-fits g m fits in
      let taken = IsPosition-after g p v is range free in
      let still = free-image g (points_by g m) (points_by g (reverse_of m)) whole p (image_by g m p)
      (image-of p is) v range
      ∙ free in
      let next = IsPosition-after g (image_by g m p) (points_by g m v) (image-is p is)
      (whole.points.range v range) still in
      sym
      (image-only (after g p v) (after g (image_by g m p) (points_by g m v)) taken next
      (IsImage-after g (points_by g m) (points_by g (reverse_of m)) whole p (image_by g m p)
      (image-of p is) v range))

  pub image-free : (p : Position) (v : ℕ)
      → IsPosition g p
      → v < point_count g
      → is_free p v ≡ true
      → is_free (image_by g m p) (points_by g m v) ≡ true
  image-free p v is range free = free-image g (points_by g m) (points_by g (reverse_of m))
      (IsAutomorphism-fits g m fits) p (image_by g m p) (image-of p is) v range
      ∙ free

-- ---- one map and then another

on-followed : (board : Option Grid) (a b : GridMap) (v : ℕ)
    → IsMapOn board a
    → IsMapOn board b
    → image_on board b (image_on board a v) ≡ image_on board (followed_by a b) v
on-followed None a b v first second = refl
on-followed (Some grid) a b v first second = image-followed grid a b v first second

pub image-followed_by : (g : Game) (a b : GridMap) (p : Position)
    → Fits g a
    → Fits g b
    → IsPosition g p
    → image_by g b (image_by g a p) ≡ image_by g (followed_by a b) p
image-followed_by g a b p first second is =
    let q = image_by g a p in
    let r = image_by g b q in
    let qi = image-is g a first p is in
    let both =
    IsImage-further g (points_by g a) (points_by g (reverse_of a)) (IsAutomorphism-fits g a first)
    (points_by g b) p q r (image-of g a first p is) (image-of g b second q qi) in
    let same : (v : ℕ) → points_by g b (points_by g a v) ≡ points_by g (followed_by a b) v =
    λ v. on-followed (board_of g.field) a b v first.is_map second.is_map in
    image-only g (followed_by a b) (Fits-followed g a b first second) p r is
    (image-is g b second q qi) (record {
      x = λ v lt. ap (contains r.x) (sym (same v)) ∙ both.x v lt;
      y = λ v lt. ap (contains r.y) (sym (same v)) ∙ both.y v lt;
      turn = both.turn;
      left = both.left;
    })

-- the map that leaves every point leaves a position
pub image-identity : (g : Game) (p : Position) → IsPosition g p → image_by g identity p ≡ p
image-identity g p is =
    image_position-stays g (points_by g identity) (points_by g (reverse_of identity))
    (IsAutomorphism-fits g identity (Fits-identity g)) p (image_on-identity (board_of g.field)) is

-- where the one position is the image of the other, the other is that of the one under the map that
-- undoes it
pub image-undone : (g : Game) (m : GridMap) (p q : Position)
    → Fits g m
    → IsPosition g p
    → IsPosition g q
    → q ≡ image_by g m p
    → p ≡ image_by g (reverse_of m) q
image-undone g m p q fits is at same =
    let h : IsImage g (points_by g m) p q =
    subst (λ r. IsImage g (points_by g m) p r) (sym same) (image-of g m fits p is) in
    image-only g (reverse_of m) (Fits-reverse g m fits) q p at is
    (IsImage-undone g (points_by g m) (points_by g (reverse_of m))
    (IsAutomorphism-fits g m fits) p q h)
