-- One node after the other is tried.
use Rattle.std.proofs.Common.{◌≡◌, ◌↔◌, ℕ, ◌+◌, ◌≤◌, List, length, Option, Some, None, slice_get}
use Rattle.std.proofs.Common.{sym, ap, ◌∙◌, subst, inl, inr, arith}
use Rattle.pg_unfold.proofs.Common.{FinSet, Contains, nat_cmp, cases_lt, slice_get_within}
use Rattle.pg_unfold.proofs.Common.{none-some, Grid, Side, Game, Position, image_node_position}
use Rattle.pg_unfold.proofs.Common.{ImageClaim, ImageNode, Image, image_of, Fits, board_of}
use Rattle.pg_unfold.proofs.Common.{image_on, image_position, GridMap}
use Rattle.pg_unfold.specs.Flaws.{AreUsable, HasMarks, IsSound, AreSoundBefore, IsSoundClaim}

-- the maps that fit a game with a board are those that are usable
pub usable-fitting : (g : Game) (grid : Grid) (maps : List GridMap)
    → board_of g.field ≡ Some grid
    → ((m : GridMap) → Contains maps m ↔ Fits g m)
    → AreUsable g maps
usable-fitting g grid maps has fit m =
    (λ c. record { grid = grid; on_grid = has; fits = (fit m).0 c }, λ u. (fit m).1 u.fits)

module _ (g : Game) (nodes : List ImageNode) (node : ImageNode) (x y : FinSet nat_cmp) (turn : Side)
    (left : ℕ) (m : GridMap) (child : ℕ) (is : node ≡ Image x y turn left m child) (grid : Grid)
    (has : board_of g.field ≡ Some grid) (other : ImageNode)
    (at : slice_get nodes child ≡ Some other) (own image : Position) where
  -- the image of the child's position decides
  pub marks-image : own ≡ image_node_position node
      → image ≡ image_position (image_of m grid) (image_node_position other)
      → (own ≡ image → HasMarks g nodes node) × (HasMarks g nodes node → own ≡ image)
  marks-image own_is image_is = (
    λ e. subst (HasMarks g nodes) (sym is) (record {
      node = other;
      at = at;
      image = sym own_at ∙ e ∙ there;
    }),
    λ h.
        let marks = subst (HasMarks g nodes) is h in
        let same : Some marks.node ≡ Some other = sym marks.at ∙ at in
        let one : marks.node ≡ other = cc in
        own_at
        ∙ marks.image
        ∙ ap (λ (n : ImageNode).
        image_position (image_on (board_of g.field) m) (image_node_position n)) one
        ∙ sym there,
  )
    where
      own_at : own ≡ image_node_position (Image x y turn left m child)
      own_at = own_is ∙ ap image_node_position is

      there : image ≡ image_position (image_on (board_of g.field) m) (image_node_position other)
      there = image_is
          ∙ ap (λ (board : Option Grid).
          image_position (image_on board m) (image_node_position other)) (sym has)

module _ (g : Game) (c : ImageClaim) where
  pub sound-more : (k : ℕ) (node : ImageNode)
      → AreSoundBefore g c k
      → slice_get c.nodes k ≡ Some node
      → IsSound g c.nodes k node
      → AreSoundBefore g c (k + 1)
  sound-more k node before at sound j n lt there = elim (cases_lt j k) [
    | inl less ↦ before j n less there
    | inr ge ↦
        let e : k ≡ j = omega arith in
        let same : Some node ≡ Some n = sym at ∙ ap (slice_get c.nodes) e ∙ there in
        let one : node ≡ n = cc in
        subst (λ (i : ℕ). IsSound g c.nodes i n) e
        (subst (λ (o : ImageNode). IsSound g c.nodes k o) one sound)
  ]

  pub sound-all : (k : ℕ) → length c.nodes ≤ k → AreSoundBefore g c k → IsSoundClaim g c
  sound-all k all before j n there =
      let lt = slice_get_within c.nodes j n there in
      before j n (omega (arith, lt, all)) there
