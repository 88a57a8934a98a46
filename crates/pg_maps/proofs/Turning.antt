-- The eight maps of a board are a group: one after the other is one of them, and each is undone by
-- one of them.
use Rattle.std.proofs.Common.{◌≡◌, ℕ, ◌+◌, ◌*◌, ◌/◌, ◌%◌, ◌<◌, ◌≤◌, Bool, true, false, nat_lt}
use Rattle.std.proofs.Common.{if◌then◌else◌, refl, sym, ap, ap₂, ◌∙◌, subst, inl, inr, arith}
use Rattle.pg_maps.proofs.Common.{cases_Bool, cases_lt, lt-ltb, le-ltb, false≢true, cond-true}
use Rattle.pg_maps.proofs.Common.{cond-false, Grid, differ}
use Rattle.std.proofs.lemmas.Nat.{div-add-mod', mul-add-lt, div-mul-add, mod-mul-add, mod_below}
use Rattle.std.proofs.lemmas.Nat.{div_below}
use Rattle.std.proofs.Math.Nat.{mul_comm}
use Rattle.pg_maps.specs.declared.grid_map.GridMap.{GridMap}
use Rattle.pg_maps.specs.GridMaps.{identity, IsMapOf, turned, image_row, image_column, image_of}
use Rattle.pg_maps.specs.GridMaps.{followed_by, reverse_of}
use Rattle.pg_maps.specs.Images.{AreInverse}
use Rattle.pg_maps.proofs.Numbers.{followed-reverse, reverse-followed}

-- ---- places from either end

turned-lt : (on : Bool) (n k : ℕ) → k < n → turned on n k < n
turned-lt true n k lt = omega arith
turned-lt false n k lt = lt

turned-turned : (a b : Bool) (n k : ℕ) → k < n → turned b n (turned a n k) ≡ turned (differ b a) n k
turned-turned true true n k lt = omega arith
turned-turned true false n k lt = refl
turned-turned false true n k lt = refl
turned-turned false false n k lt = refl

-- ---- rows and columns

module _ (grid : Grid) where
  row-lt : (m : GridMap) (r c : ℕ)
      → IsMapOf grid m
      → r < grid.height
      → c < grid.width
      → image_row m grid r c < grid.height
  row-lt m r c fits rh cw =
      turned-lt m.rows grid.height (if m.exchange then c else r) (elim (cases_Bool m.exchange) [
        | inl on ↦ let square = fits on in rw on (omega arith)
        | inr off ↦ rw off rh
      ])

  column-lt : (m : GridMap) (r c : ℕ)
      → IsMapOf grid m
      → r < grid.height
      → c < grid.width
      → image_column m grid r c < grid.width
  column-lt m r c fits rh cw =
      turned-lt m.columns grid.width (if m.exchange then r else c) (elim (cases_Bool m.exchange) [
        | inl on ↦ let square = fits on in rw on (omega arith)
        | inr off ↦ rw off cw
      ])

  row-followed : (a b : GridMap) (r c : ℕ)
      → IsMapOf grid a
      → IsMapOf grid b
      → r < grid.height
      → c < grid.width
      → image_row b grid (image_row a grid r c) (image_column a grid r c)
      ≡ image_row (followed_by a b) grid r c
  row-followed a b r c fa fb rh cw = by a.exchange b.exchange fa fb
    where
      by : (ae be : Bool)
          → (ae ≡ true → grid.width ≡ grid.height)
          → (be ≡ true → grid.width ≡ grid.height)
          → turned b.rows grid.height (if be
          then turned a.columns grid.width (if ae then r else c)
          else turned a.rows grid.height (if ae then c else r))
          ≡ turned (differ b.rows (if be then a.columns else a.rows)) grid.height
          (if differ ae be then c else r)
      by true true fa fb = ap (λ n. turned b.rows grid.height (turned a.columns n r)) (fa refl)
          ∙ turned-turned a.columns b.rows grid.height r rh
      by true false fa fb =
          turned-turned a.rows b.rows grid.height c (subst (λ n. c < n) (fa refl) cw)
      by false true fa fb = ap (λ n. turned b.rows grid.height (turned a.columns n c)) (fb refl)
          ∙ turned-turned a.columns b.rows grid.height c (subst (λ n. c < n) (fb refl) cw)
      by false false fa fb = turned-turned a.rows b.rows grid.height r rh

  column-followed : (a b : GridMap) (r c : ℕ)
      → IsMapOf grid a
      → IsMapOf grid b
      → r < grid.height
      → c < grid.width
      → image_column b grid (image_row a grid r c) (image_column a grid r c)
      ≡ image_column (followed_by a b) grid r c
  column-followed a b r c fa fb rh cw = by a.exchange b.exchange fa fb
    where
      by : (ae be : Bool)
          → (ae ≡ true → grid.width ≡ grid.height)
          → (be ≡ true → grid.width ≡ grid.height)
          → turned b.columns grid.width (if be
          then turned a.rows grid.height (if ae then c else r)
          else turned a.columns grid.width (if ae then r else c))
          ≡ turned (differ b.columns (if be then a.rows else a.columns)) grid.width
          (if differ ae be then r else c)
      by true true fa fb = ap (λ n. turned b.columns grid.width (turned a.rows n c)) (sym (fa refl))
          ∙ turned-turned a.rows b.columns grid.width c cw
      by true false fa fb =
          turned-turned a.columns b.columns grid.width r (subst (λ n. r < n) (sym (fa refl)) rh)
      by false true fa fb =
          ap (λ n. turned b.columns grid.width (turned a.rows n r)) (sym (fb refl))
          ∙ turned-turned a.rows b.columns grid.width r (subst (λ n. r < n) (sym (fb refl)) rh)
      by false false fa fb = turned-turned a.columns b.columns grid.width c cw

  -- ---- points

  -- the image of a cell
  pub image-cell : (m : GridMap) (r c : ℕ)
      → r < grid.height
      → c < grid.width
      → image_of m grid (r * grid.width + c)
      ≡ image_row m grid r c * grid.width + image_column m grid r c
  unfolding image_of
  image-cell m r c rh cw = cond-true (nat_lt (r * grid.width + c) (grid.width * grid.height)) _ _
      (lt-ltb _ _ (mul-add-lt r grid.width c grid.height rh cw))
      ∙ ap₂ (λ a b. image_row m grid a b * grid.width + image_column m grid a b)
      (div-mul-add r grid.width c cw) (mod-mul-add r grid.width c cw)

  pub image-beyond : (m : GridMap) (v : ℕ) → grid.width * grid.height ≤ v → image_of m grid v ≡ v
  unfolding image_of
  image-beyond m v far =
      cond-false (nat_lt v (grid.width * grid.height)) _ _ (le-ltb v (grid.width * grid.height) far)

  -- the image of a point of the board, by its row and its column
  pub image-at : (m : GridMap) (v : ℕ)
      → v < grid.width * grid.height
      → image_of m grid v ≡ image_row m grid (v / grid.width) (v % grid.width) * grid.width
      + image_column m grid (v / grid.width) (v % grid.width)
  unfolding image_of
  image-at m v lt = cond-true (nat_lt v (grid.width * grid.height)) _ _ (lt-ltb _ _ lt)

  -- a point of the board is a cell
  pub cell-of : (v : ℕ)
      → v < grid.width * grid.height
      → (r : ℕ) × (c : ℕ) × (r < grid.height) × (c < grid.width) × (v ≡ r * grid.width + c)
  cell-of v lt = elim (cases_lt 0 grid.width) [
    | inl some ↦ (
      v / grid.width,
      v % grid.width,
      div_below v grid.width grid.height some
          (subst (λ n. v < n) (mul_comm grid.width grid.height) lt),
      mod_below v grid.width some,
      sym (div-add-mod' v grid.width),
    )
    | inr none ↦
        let zero_wide : grid.width ≡ 0 = omega arith in
        absurd (no_cell (subst (λ n. v < n * grid.height) zero_wide lt))
  ]
    where
      no_cell : v < 0 * grid.height → ⊥
      no_cell h = omega arith

  pub image-lt : (m : GridMap) (v : ℕ)
      → IsMapOf grid m
      → v < grid.width * grid.height
      → image_of m grid v < grid.width * grid.height
  image-lt m v fits lt =
      let cell = cell-of v lt in
      subst (λ n. n < grid.width * grid.height)
      (sym (ap (image_of m grid) cell.4 ∙ image-cell m cell.0 cell.1 cell.2 cell.3))
      (mul-add-lt (image_row m grid cell.0 cell.1) grid.width
      (image_column m grid cell.0 cell.1) grid.height (row-lt m cell.0 cell.1 fits cell.2 cell.3)
      (column-lt m cell.0 cell.1 fits cell.2 cell.3))

  -- one map and then another is the map that they make
  pub image-followed : (a b : GridMap) (v : ℕ)
      → IsMapOf grid a
      → IsMapOf grid b
      → image_of b grid (image_of a grid v) ≡ image_of (followed_by a b) grid v
  image-followed a b v fa fb = elim (cases_lt v (grid.width * grid.height)) [
    | inl lt ↦
        let cell = cell-of v lt in
        let r = image_row a grid cell.0 cell.1 in
        let c = image_column a grid cell.0 cell.1 in
        ap (λ u. image_of b grid (image_of a grid u)) cell.4
        ∙ ap (image_of b grid) (image-cell a cell.0 cell.1 cell.2 cell.3)
        ∙ image-cell b r c (row-lt a cell.0 cell.1 fa cell.2 cell.3)
        (column-lt a cell.0 cell.1 fa cell.2 cell.3)
        ∙ ap₂ (λ m n. m * grid.width + n) (row-followed a b cell.0 cell.1 fa fb cell.2 cell.3)
        (column-followed a b cell.0 cell.1 fa fb cell.2 cell.3)
        ∙ sym (ap (image_of (followed_by a b) grid) cell.4
        ∙ image-cell (followed_by a b) cell.0 cell.1 cell.2 cell.3)
    | inr far ↦ ap (image_of b grid) (image-beyond a v far)
        ∙ image-beyond b v far
        ∙ sym (image-beyond (followed_by a b) v far)
  ]

  pub image-identity : (v : ℕ) → image_of identity grid v ≡ v
  image-identity v = elim (cases_lt v (grid.width * grid.height)) [
    | inl lt ↦
        let cell = cell-of v lt in
        ap (image_of identity grid) cell.4
        ∙ image-cell identity cell.0 cell.1 cell.2 cell.3
        ∙ sym cell.4
    | inr far ↦ image-beyond identity v far
  ]

  pub IsMapOf-reverse : (m : GridMap) → IsMapOf grid m → IsMapOf grid (reverse_of m)
  IsMapOf-reverse m fits = fits

  pub IsMapOf-followed : (a b : GridMap)
      → IsMapOf grid a
      → IsMapOf grid b
      → IsMapOf grid (followed_by a b)
  IsMapOf-followed a b fa fb on = by a.exchange b.exchange fa fb on
    where
      by : (ae be : Bool)
          → (ae ≡ true → grid.width ≡ grid.height)
          → (be ≡ true → grid.width ≡ grid.height)
          → differ ae be ≡ true
          → grid.width ≡ grid.height
      by true be fa fb on = fa refl
      by false true fa fb on = fb refl
      by false false fa fb on = absurd (false≢true on)

  pub AreInverse-map : (m : GridMap)
      → IsMapOf grid m
      → AreInverse (grid.width * grid.height) (image_of m grid) (image_of (reverse_of m) grid)
  AreInverse-map m fits = record {
    range = λ v lt. image-lt m v fits lt;
    back_range = λ v lt. image-lt (reverse_of m) v (IsMapOf-reverse m fits) lt;
    undone = λ v lt. image-followed m (reverse_of m) v fits (IsMapOf-reverse m fits)
        ∙ ap (λ (k : GridMap). image_of k grid v) (followed-reverse m)
        ∙ image-identity v;
    redone = λ v lt. image-followed (reverse_of m) m v (IsMapOf-reverse m fits) fits
        ∙ ap (λ (k : GridMap). image_of k grid v) (reverse-followed m)
        ∙ image-identity v;
  }
