-- A map that fits a game keeps potentials, threat lines and pairs.
use Rattle.std.proofs.Common.{◌≡◌, ℕ, zero, suc, ◌+◌, ◌-◌, ◌*◌, ◌^◌, ◌<◌, ◌≤◌, Bool, true, List, []}
use Rattle.std.proofs.Common.{◌∷◌, length, map, cond, if◌then◌else◌, refl, sym, ap, ap₂, ◌∙◌, subst}
use Rattle.std.proofs.Common.{inl, inr, arith, eqb, eq-eqb, ne_eqb}
use Rattle.pg_maps.proofs.Common.{cases_Bool, both_ways, All-weaker, All-head, All-tail}
use Rattle.pg_maps.proofs.Common.{sum_by-cons, sum_by-IsPermutation, length_permutation, All}
use Rattle.pg_maps.proofs.Common.{Contains, filter, count_by, sum_by, range_with_len, IsPermutation}
use Rattle.pg_maps.proofs.Common.{FinSet, contains, nat_cmp, is_same_side, Side, Game, Position}
use Rattle.pg_maps.proofs.Common.{IsLineOf, is_free, points_of, point_count, lines_of, free_points}
use Rattle.pg_maps.proofs.Common.{greatest_length, is_on, line_weight, total_weight, point_weight}
use Rattle.pg_maps.proofs.Common.{full_weight, greatest, weight, greatest_weight, times_counted}
use Rattle.pg_maps.proofs.Common.{limit, PotentialHolds, x_takes_last, avoider_ends, avoider_total}
use Rattle.pg_maps.proofs.Common.{AvoiderHolds, lines-fit, Contains-head, Contains-tail}
use Rattle.pg_maps.proofs.Common.{list_any-one, list_any-none, All-from_members, free-member}
use Rattle.pg_maps.proofs.Common.{member-free, member-within, greatest-le, greatest-ge}
use Rattle.pg_maps.specs.Images.{image_line, IsAutomorphism, IsImage}
use Rattle.pg_maps.proofs.ImageLines.{is_in, filter-permutes, AreDistinct-map, AreDistinct-range}
use Rattle.pg_maps.proofs.ImageLines.{All-through}
use Rattle.pg_maps.proofs.Imaging.{permuted, any-image, eqb-image, has-image, free-image}

pub sum-through : {A B : Type 0} (f : A → B) (t : B → ℕ) (xs : List A)
    → sum_by t (map f xs) ≡ sum_by (λ x. t (f x)) xs
sum-through f t [] = refl
sum-through f t (x ∷ xs) = omega (
  arith,
  sum_by-cons t (f x) (map f xs),
  sum_by-cons (λ x. t (f x)) x xs,
  sum-through f t xs,
)

pub sum-same : {A : Type 0} (t u : A → ℕ) (xs : List A)
    → All (λ x. t x ≡ u x) xs
    → sum_by t xs ≡ sum_by u xs
sum-same t u [] each = refl
sum-same t u (x ∷ xs) each =
    let here = All-head (λ y. t y ≡ u y) x xs each in
    omega (
      arith,
      sum_by-cons t x xs,
      sum_by-cons u x xs,
      here,
      sum-same t u xs (All-tail (λ y. t y ≡ u y) x xs each),
    )

pub Contains-map : {A B : Type 0} (f : A → B) (xs : List A) (x : A)
    → Contains xs x
    → Contains (map f xs) (f x)
Contains-map f [] x c = absurd (omega (arith, c.1))
Contains-map f (y ∷ ys) x (zero, lt, is) =
    subst (λ z. Contains (map f (y ∷ ys)) (f z)) is (Contains-head (f y) (map f ys))
Contains-map f (y ∷ ys) x (suc k, lt, is) =
    Contains-tail (f y) (f x) (map f ys) (Contains-map f ys x (k, omega arith, is))

-- a member of the mapped list comes from a member
pub Contains-map-from : {A B : Type 0} (f : A → B) (xs : List A) (y : B)
    → Contains (map f xs) y
    → (x : A) × Contains xs x × (f x ≡ y)
Contains-map-from f [] y c = absurd (omega (arith, c.1))
Contains-map-from f (x ∷ xs) y (zero, lt, is) = (x, Contains-head x xs, is)
Contains-map-from f (x ∷ xs) y (suc k, lt, is) =
    let rest = Contains-map-from f xs y (k, omega arith, is) in
    (rest.0, Contains-tail x rest.0 xs rest.1, rest.2)

-- tests that agree below n keep the same numbers
filter_agree_below : (t u : ℕ → Bool) (n : ℕ)
    → ((v : ℕ) → v < n → t v ≡ u v)
    → filter t (range_with_len 0 n) ≡ filter u (range_with_len 0 n)
filter_agree_below t u n each = from 0 n (λ v low high. each v (omega arith))
  where
    from : (a m : ℕ)
        → ((v : ℕ) → a ≤ v → v < a + m → t v ≡ u v)
        → filter t (range_with_len a m) ≡ filter u (range_with_len a m)
    from a zero each = refl
    from a (suc m) each =
        let rest = from (a + 1) m (λ v low high. each v (omega arith) (omega arith)) in
        elim (cases_Bool (u a)) [
          | inl on ↦
              let also = each a (omega arith) (omega arith) ∙ on in
              rw (on, also) (ap (λ vs. a ∷ vs) rest)
          | inr off ↦ let also = each a (omega arith) (omega arith) ∙ off in rw (off, also) rest
        ]

module _ (g : Game) (f back : ℕ → ℕ) (fits : IsAutomorphism g f back) where
  -- sums over the lines
  sum-lines : (t u : List ℕ → ℕ)
      → ((line : List ℕ) → IsLineOf (point_count g) g.bias line
      → t (image_line f (point_count g) line) ≡ u line)
      → sum_by t (lines_of g) ≡ sum_by u (lines_of g)
  sum-lines t u each = sum_by-IsPermutation t (map (image_line f (point_count g)) (lines_of g))
      (lines_of g) fits.lines
      ∙ sum-through (image_line f (point_count g)) t (lines_of g)
      ∙ sum-same (λ line. t (image_line f (point_count g) line)) u (lines_of g)
      (All-weaker (IsLineOf (point_count g) g.bias)
      (λ line. t (image_line f (point_count g) line) ≡ u line) each (lines_of g) (lines-fit g))

  count-image : (t u : ℕ → Bool) (line : List ℕ)
      → IsLineOf (point_count g) g.bias line
      → ((v : ℕ) → v < point_count g → t (f v) ≡ u v)
      → count_by t (image_line f (point_count g) line) ≡ count_by u line
  count-image t u line is each = sum_by-IsPermutation (λ v. cond (t v) 1 0) (map f line)
      (image_line f (point_count g) line) (permuted g f back fits line is)
      ∙ sum-through f (λ v. cond (t v) 1 0) line
      ∙ sum-same (λ v. cond (t (f v)) 1 0) (λ v. cond (u v) 1 0) line
      (All-weaker (λ v. v < point_count g) (λ v. ◌≡◌ {A = ℕ} (cond (t (f v)) 1 0) (cond (u v) 1 0))
      (λ v lt. ap {B = ℕ} (λ b. cond b 1 0) (each v lt)) line is.range)

  module _ (p q : Position) (h : IsImage g f p q) where
    -- ---- weights

    weight-image : (base k : ℕ) (own mine : FinSet nat_cmp) (line : List ℕ)
        → IsLineOf (point_count g) g.bias line
        → ((v : ℕ) → v < point_count g → contains own (f v) ≡ contains mine v)
        → line_weight base k own q (image_line f (point_count g) line)
        ≡ line_weight base k mine p line
    unfolding line_weight
    weight-image base k own mine line is same =
        let touched = any-image g f back fits (contains own) (contains mine) line is same in
        let free = count-image (is_free q) (is_free p) line is (free-image g f back fits p q h) in
        ap₂ (λ (b : Bool) n. if b then 0 else base ^ (k - n)) touched free

    total-image : (base : ℕ) (own mine : FinSet nat_cmp)
        → ((v : ℕ) → v < point_count g → contains own (f v) ≡ contains mine v)
        → total_weight base g own q ≡ total_weight base g mine p
    unfolding total_weight
    total-image base own mine same =
        sum-lines (line_weight base (greatest_length (lines_of g)) own q)
        (line_weight base (greatest_length (lines_of g)) mine p)
        (λ line is. weight-image base (greatest_length (lines_of g)) own mine line is same)

    point_weight-image : (base : ℕ) (own mine : FinSet nat_cmp) (v : ℕ)
        → v < point_count g
        → ((v : ℕ) → v < point_count g → contains own (f v) ≡ contains mine v)
        → point_weight base g own q (f v) ≡ point_weight base g mine p v
    unfolding point_weight
    point_weight-image base own mine v range same = sum-lines (λ line.
        if is_on (f v) line then line_weight base (greatest_length (lines_of g)) own q line else 0)
        (λ line. if is_on v line then line_weight base (greatest_length (lines_of g)) mine p line
        else 0) (λ line is. ap₂ (λ (b : Bool) n. if b then n else 0) (any-image g f back fits
        (λ u. eqb u (f v)) (λ u. eqb u v) line is (λ u lt. eqb-image g f back fits v u range lt))
        (weight-image base (greatest_length (lines_of g)) own mine line is same))

    -- ---- free points

    pub free_points-image : IsPermutation (map f (free_points g p)) (free_points g q)
    unfolding free_points
    free_points-image =
        let below : All (λ v. v < point_count g) (free_points g p) =
        All-from_members (λ v. v < point_count g) (free_points g p) (member-within g p) in
        subst (λ vs. IsPermutation (map f (free_points g p)) vs)
        (filter_agree_below (is_in (map f (free_points g p))) (is_free q) (point_count g) same)
        (filter-permutes (map f (free_points g p)) (point_count g)
        (AreDistinct-map f back (point_count g) (free_points g p) fits.points
        (AreDistinct-range (is_free p) (point_count g)) below)
        (All-through f (λ v. v < point_count g) (free_points g p)
        (All-weaker (λ v. v < point_count g) (λ v. f v < point_count g)
        (λ v lt. fits.points.range v lt) (free_points g p) below)))
      where
        same : (w : ℕ) → w < point_count g → is_in (map f (free_points g p)) w ≡ is_free q w
        same w lt =
            let v = back w in
            let range = fits.points.back_range w lt in
            let there = fits.points.redone w lt in
            let here : is_free q w ≡ is_free p v =
            ap (is_free q) (sym there) ∙ free-image g f back fits p q h v range in
            elim (cases_Bool (is_free p v)) [
              | inl free ↦ list_any-one (λ y. eqb y w) (map f (free_points g p)) w
                  (subst (λ u. Contains (map f (free_points g p)) u) there
                  (Contains-map f (free_points g p) v (free-member g p v range free)))
                  (eq-eqb w w refl)
                  ∙ sym (here ∙ free)
              | inr taken ↦ list_any-none (λ y. eqb y w) (map f (free_points g p)) (λ y c.
                  let from = Contains-map-from f (free_points g p) y c in
                  ne_eqb y w (λ e. both_ways (is_free p v) taken (subst (λ u. is_free p u ≡ true)
                  (sym (fits.points.undone from.0 (member-within g p from.0 from.1))
                  ∙ ap back (from.2 ∙ e)) (member-free g p from.0 from.1))))
                  ∙ sym (here ∙ taken)
            ]

    pub count_free-image : length (free_points g q) ≡ length (free_points g p)
    count_free-image =
        length_permutation (map f (free_points g p)) (free_points g q) free_points-image
        ∙ length-through (free_points g p)
      where
        length-through : (vs : List ℕ) → length (map f vs) ≡ length vs
        length-through [] = refl
        length-through (v ∷ vs) = ap suc (length-through vs)

    -- ---- potentials

    greatest-image : (t u : ℕ → ℕ)
        → ((v : ℕ) → v < point_count g → t (f v) ≡ u v)
        → greatest (map t (free_points g q)) ≡ greatest (map u (free_points g p))
    greatest-image t u same =
        let up : greatest (map t (free_points g q)) ≤ greatest (map u (free_points g p)) =
        greatest-le t (free_points g q) (greatest (map u (free_points g p))) (λ w c.
        let range = member-within g q w c in
        let was = fits.points.back_range w range in
        let there = fits.points.redone w range in
        let free : is_free p (back w) ≡ true = sym (free-image g f back fits p q h (back w) was)
        ∙ ap (is_free q) there
        ∙ member-free g q w c in
        let value : t w ≡ u (back w) = ap t (sym there) ∙ same (back w) was in
        omega (
          arith,
          value,
          greatest-ge u (free_points g p) (back w) (free-member g p (back w) was free),
        )) in
        let down : greatest (map u (free_points g p)) ≤ greatest (map t (free_points g q)) =
        greatest-le u (free_points g p) (greatest (map t (free_points g q))) (λ v c.
        let range = member-within g p v c in
        let free : is_free q (f v) ≡ true =
        free-image g f back fits p q h v range ∙ member-free g p v c in
        let value = same v range in
        omega (
          arith,
          value,
          greatest-ge t (free_points g q) (f v)
              (free-member g q (f v) (fits.points.range v range) free),
        )) in
        omega (arith, up, down)

    pub PotentialHolds-image : (side : Side) → PotentialHolds g p side → PotentialHolds g q side
    PotentialHolds-image side holds =
        let whole = total-image (1 + g.bias) (points_of q side) (points_of p side)
        (has-image g f back fits p q h side) in
        let great : greatest_weight g q side ≡ greatest_weight g p side =
        greatest-image (weight g q side) (weight g p side)
        (λ v range. point_weight-image (1 + g.bias) (points_of q side) (points_of p side) v range
        (has-image g f back fits p q h side)) in
        let times : times_counted g q side ≡ times_counted g p side =
        ap₂ (λ (s : Side) n. if is_same_side side s then g.bias - n else g.bias) h.turn h.left in
        subst (λ n. n < limit g) (sym (λ i. whole i + times i * great i)) holds

    pub AvoiderHolds-image : AvoiderHolds g p → AvoiderHolds g q
    AvoiderHolds-image holds =
        let whole : avoider_total g q ≡ avoider_total g p = total-image 2 q.y p.y h.y in
        let ends : avoider_ends g q ≡ avoider_ends g p =
        λ i. x_takes_last g.bias (h.turn i) (h.left i) (count_free-image i) in
        subst (λ n. n < full_weight 2 g)
        (sym (ap₂ (λ (b : Bool) n. if b then 2 * n else n) ends whole)) holds
