-- The image of a position, of all replies, and of a position that is no worse.
use Rattle.std.proofs.Common.{◌≡◌, ℕ, ◌+◌, ◌<◌, true, List, map, refl, sym, ap, ◌∙◌, subst, inl}
use Rattle.std.proofs.Common.{inr, arith, eqb, eqb-true, eq-eqb}
use Rattle.pg_maps.proofs.Common.{cases_Bool, both_ways, All-weaker, filter_agree}
use Rattle.pg_maps.proofs.Common.{list_any-IsPermutation, IsPermutation-trans, IsPermutation-sym}
use Rattle.pg_maps.proofs.Common.{All-permutation, All, AllPairs, range_with_len, IsPermutation}
use Rattle.pg_maps.proofs.Common.{FinSet, contains, nat_cmp, AreBelow, AreWithin, members}
use Rattle.pg_maps.proofs.Common.{same_points, other, Side, X, Y, Game, Position, is_free}
use Rattle.pg_maps.proofs.Common.{points_of, point_count, free_points, IsPosition, point_count-le}
use Rattle.pg_maps.proofs.Common.{member-within, list_any-one, member-from_any, All-from_members}
use Rattle.pg_maps.proofs.Common.{IsNoWorse}
use Rattle.pg_maps.specs.Images.{IsAutomorphism, IsImage, image_set, image_position}
use Rattle.pg_maps.proofs.ImageLines.{is_in, filter-rising, rising_range}
use Rattle.pg_maps.proofs.SetImages.{member_of, of_member, in_image}
use Rattle.pg_maps.proofs.Imaging.{has-image}
use Rattle.pg_maps.proofs.Criteria.{Contains-map, Contains-map-from, free_points-image}

-- ---- ascending lists of the same numbers

below_same : (xs ys : List ℕ) (n : ℕ)
    → AllPairs (λ x y. x < y) xs
    → AllPairs (λ x y. x < y) ys
    → All (λ v. v < n) xs
    → All (λ v. v < n) ys
    → IsPermutation xs ys
    → xs ≡ ys
below_same xs ys n up vp low high moved = sym (filter-rising xs 0 n up (λ k d h. omega arith)
    (All-weaker (λ v. v < n) (λ v. v < 0 + n) (λ v lt. omega (arith, lt)) xs low))
    ∙ filter_agree (is_in xs) (is_in ys) (λ q. list_any-IsPermutation (λ y. eqb y q) xs ys moved)
    (range_with_len 0 n)
    ∙ filter-rising ys 0 n vp (λ k d h. omega arith)
    (All-weaker (λ v. v < n) (λ v. v < 0 + n) (λ v lt. omega (arith, lt)) ys high)

rising_free : (g : Game) (p : Position) → AllPairs (λ x y. x < y) (free_points g p)
unfolding free_points
rising_free g p = rising_range (is_free p) (point_count g)

-- the images of all free points, in ascending order, are all free points of the image
pub replies-image : (g : Game) (f back : ℕ → ℕ) (fits : IsAutomorphism g f back) (p q : Position)
    (h : IsImage g f p q) (points : List ℕ)
    → IsPermutation (map f (free_points g p)) points
    → AllPairs (λ x y. x < y) points
    → points ≡ free_points g q
replies-image g f back fits p q h points moved up =
    let all = IsPermutation-trans points (map f (free_points g p)) (free_points g q)
    (IsPermutation-sym (map f (free_points g p)) points moved)
    (free_points-image g f back fits p q h) in
    let below = All-from_members (λ v. v < point_count g) (free_points g q) (member-within g q) in
    below_same points (free_points g q) (point_count g) up (rising_free g q)
    (All-permutation (λ v. v < point_count g) (free_points g q) points
    (IsPermutation-sym points (free_points g q) all) below) below all

-- ---- the image of a set

module _ (g : Game) (f back : ℕ → ℕ) (fits : IsAutomorphism g f back) where
  pub image_set-has : (s : FinSet nat_cmp) (v : ℕ)
      → AreBelow s (point_count g)
      → v < point_count g
      → contains (image_set f s) (f v) ≡ contains s v
  image_set-has s v below range = elim (cases_Bool (contains s v)) [
    | inl on ↦
        let small : v < 1024 = omega (arith, range, point_count-le g) in
        in_image f s (f v)
        ∙ list_any-one (λ y. eqb y (f v)) (map f (members s)) (f v)
        (Contains-map f (members s) v (member_of s v small on)) (eq-eqb (f v) (f v) refl)
        ∙ sym on
    | inr off ↦ elim (cases_Bool (is_in (map f (members s)) (f v))) [
      | inl on ↦
          let found = member-from_any (λ y. eqb y (f v)) (map f (members s)) on in
          let from = Contains-map-from f (members s) found.0 found.1 in
          let has = of_member s from.0 from.1 in
          let same : from.0 ≡ v = sym (fits.points.undone from.0 (below from.0 has))
          ∙ ap back (from.2 ∙ eqb-true found.0 (f v) found.2)
          ∙ fits.points.undone v range in
          absurd (both_ways _ off (subst (λ u. contains s u ≡ true) same has))
      | inr none ↦ in_image f s (f v) ∙ none ∙ sym off
    ]
  ]

  pub image_set-below : (s : FinSet nat_cmp)
      → AreBelow s (point_count g)
      → AreBelow (image_set f s) (point_count g)
  image_set-below s below w on =
      let found = member-from_any (λ y. eqb y w) (map f (members s)) (sym (in_image f s w) ∙ on) in
      let from = Contains-map-from f (members s) found.0 found.1 in
      subst (λ u. u < point_count g) (from.2 ∙ eqb-true found.0 w found.2)
      (fits.points.range from.0 (below from.0 (of_member s from.0 from.1)))

  pub IsImage-position : (p : Position) → IsPosition g p → IsImage g f p (image_position f p)
  IsImage-position p is = record {
    x = λ v range. image_set-has p.x v is.x_range range;
    y = λ v range. image_set-has p.y v is.y_range range;
    turn = refl;
    left = refl;
  }

  -- the image of a position of the game is a position of the game
  pub IsPosition-image : (p : Position) → IsPosition g p → IsPosition g (image_position f p)
  IsPosition-image p is = record {
    x_range = image_set-below p.x is.x_range;
    y_range = image_set-below p.y is.y_range;
    disjoint = λ w on.
        let range = image_set-below p.x is.x_range w on in
        let was = fits.points.back_range w range in
        let there = fits.points.redone w range in
        let x = sym (image_set-has p.x (back w) is.x_range was)
        ∙ ap (contains (image_set f p.x)) there ∙ on in
        ap (contains (image_set f p.y)) (sym there)
        ∙ image_set-has p.y (back w) is.y_range was
        ∙ is.disjoint (back w) x;
    some_left = is.some_left;
    few_left = is.few_left;
  }

  -- ---- positions that are no worse

  within-image : (s t s' t' : FinSet nat_cmp)
      → AreBelow s' (point_count g)
      → ((v : ℕ) → v < point_count g → contains s' (f v) ≡ contains s v)
      → ((v : ℕ) → v < point_count g → contains t' (f v) ≡ contains t v)
      → AreWithin s t
      → AreWithin s' t'
  within-image s t s' t' below first second among w on =
      let range = below w on in
      let was = fits.points.back_range w range in
      let there = fits.points.redone w range in
      let held = sym (first (back w) was) ∙ ap (contains s') there ∙ on in
      ap (contains t') (sym there) ∙ second (back w) was ∙ among (back w) held

  own_below : (p : Position) (side : Side)
      → IsPosition g p
      → AreBelow (points_of p side) (point_count g)
  own_below p X is = is.x_range
  own_below p Y is = is.y_range

  -- the images of a position and of one that is no worse are so too
  pub IsNoWorse-image : (side : Side) (q p q' p' : Position)
      → IsImage g f q q'
      → IsImage g f p p'
      → IsPosition g q'
      → IsPosition g p'
      → IsNoWorse side q p
      → IsNoWorse side q' p'
  IsNoWorse-image side q p q' p' h k qi pi worse = record {
    own = within-image (points_of q side) (points_of p side) (points_of q' side) (points_of p' side)
        (own_below q' side qi) (has-image g f back fits q q' h side)
        (has-image g f back fits p p' k side) worse.own;
    theirs = within-image (points_of p (other side)) (points_of q (other side))
        (points_of p' (other side)) (points_of q' (other side)) (own_below p' (other side) pi)
        (has-image g f back fits p p' k (other side))
        (has-image g f back fits q q' h (other side)) worse.theirs;
    turn = k.turn ∙ worse.turn ∙ sym h.turn;
    left = k.left ∙ worse.left ∙ sym h.left;
  }

  -- ---- a position has one image

  set_unique : (s t t' : FinSet nat_cmp)
      → AreBelow t (point_count g)
      → AreBelow t' (point_count g)
      → ((v : ℕ) → v < point_count g → contains t (f v) ≡ contains s v)
      → ((v : ℕ) → v < point_count g → contains t' (f v) ≡ contains s v)
      → t ≡ t'
  set_unique s t t' low low' first second = same_points t t' same
    where
      at : (w : ℕ) → w < point_count g → contains t w ≡ contains t' w
      at w range =
          let was = fits.points.back_range w range in
          let there = fits.points.redone w range in
          ap (contains t) (sym there)
          ∙ first (back w) was
          ∙ sym (second (back w) was)
          ∙ ap (contains t') there

      same : (w : ℕ) → contains t w ≡ contains t' w
      same w = elim (cases_Bool (contains t w)) [
        | inl on ↦ at w (low w on)
        | inr off ↦ elim (cases_Bool (contains t' w)) [
          | inl on ↦ at w (low' w on)
          | inr also ↦ off ∙ sym also
        ]
      ]

  pub IsImage-unique : (p q r : Position)
      → IsImage g f p q
      → IsImage g f p r
      → IsPosition g q
      → IsPosition g r
      → q ≡ r
  IsImage-unique p q r h k qi ri =
      let x = set_unique p.x q.x r.x qi.x_range ri.x_range h.x k.x in
      let y = set_unique p.y q.y r.y qi.y_range ri.y_range h.y k.y in
      let turn = h.turn ∙ sym k.turn in
      let left = h.left ∙ sym k.left in
      λ i. record { x = x i; y = y i; turn = turn i; left = left i }

  -- ---- images of images

  pub IsImage-further : (h : ℕ → ℕ) (p q r : Position)
      → IsImage g f p q
      → IsImage g h q r
      → IsImage g (λ v. h (f v)) p r
  IsImage-further h p q r first second = record {
    x = λ v lt. second.x (f v) (fits.points.range v lt) ∙ first.x v lt;
    y = λ v lt. second.y (f v) (fits.points.range v lt) ∙ first.y v lt;
    turn = second.turn ∙ first.turn;
    left = second.left ∙ first.left;
  }

  pub IsImage-undone : (p q : Position) → IsImage g f p q → IsImage g back q p
  IsImage-undone p q h = record {
    x = λ w lt. sym (h.x (back w) (fits.points.back_range w lt))
        ∙ ap (contains q.x) (fits.points.redone w lt);
    y = λ w lt. sym (h.y (back w) (fits.points.back_range w lt))
        ∙ ap (contains q.y) (fits.points.redone w lt);
    turn = sym h.turn;
    left = sym h.left;
  }

  -- where every point stays so does the position
  pub image_position-stays : (p : Position)
      → ((v : ℕ) → f v ≡ v)
      → IsPosition g p
      → image_position f p ≡ p
  image_position-stays p stays is =
      IsImage-unique p (image_position f p) p (IsImage-position p is) (record {
        x = λ v lt. ap (contains p.x) (stays v);
        y = λ v lt. ap (contains p.y) (stays v);
        turn = refl;
        left = refl;
      }) (IsPosition-image p is) is
