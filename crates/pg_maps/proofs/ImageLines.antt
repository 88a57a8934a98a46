-- Images of lines: their points are the images of the points, and maps that take the lines onto the
-- lines are a group.
use Rattle.std.proofs.Common.{◌≡◌, ℕ, zero, suc, ◌+◌, ◌<◌, ◌≤◌, Bool, false, ◌||◌, List, [], ◌∷◌}
use Rattle.std.proofs.Common.{get_or, map, refl, sym, ap, ap₂, ◌∙◌, subst, inl, inr, arith, eqb}
use Rattle.std.proofs.Common.{eq-eqb, ne_eqb}
use Rattle.pg_maps.proofs.Common.{cases_Bool, cases_eq, All-weaker, All-head, All-tail, All-cons}
use Rattle.pg_maps.proofs.Common.{filter_agree, list_any_none, AllPairs-from_increasing}
use Rattle.pg_maps.proofs.Common.{AllPairs-filter, length-range_with_len, get_or-range_with_len}
use Rattle.pg_maps.proofs.Common.{IsPermutation-refl, IsPermutation-cons, IsPermutation-middle}
use Rattle.pg_maps.proofs.Common.{IsPermutation-trans, IsPermutation-sym, IsPermutation-map}
use Rattle.pg_maps.proofs.Common.{list_any-IsPermutation, All, AllPairs, filter, list_any}
use Rattle.pg_maps.proofs.Common.{range_with_len, IsPermutation, IsStrictlyIncreasing, FinSet}
use Rattle.pg_maps.proofs.Common.{contains, from_list, contains-from_list_nat, nat_cmp}
use Rattle.pg_maps.proofs.Common.{points_below, same_points}
use Rattle.pg_maps.specs.Images.{AreInverse, image_line, AreSameLines}
use Rattle.pg_maps.specs.Rows.{IsRow}

-- ---- tests

-- tests that agree at the members
pub list_any-same : {A : Type 0} (t u : A → Bool) (xs : List A)
    → All (λ x. t x ≡ u x) xs
    → list_any t xs ≡ list_any u xs
list_any-same t u [] each = refl
list_any-same t u (x ∷ xs) each = ap₂ (λ a b. a || b) (All-head (λ y. t y ≡ u y) x xs each)
    (list_any-same t u xs (All-tail (λ y. t y ≡ u y) x xs each))

pub list_any-through : {A B : Type 0} (f : A → B) (t : B → Bool) (xs : List A)
    → list_any t (map f xs) ≡ list_any (λ x. t (f x)) xs
list_any-through f t [] = refl
list_any-through f t (x ∷ xs) = ap (λ b. t (f x) || b) (list_any-through f t xs)

-- whether a number is in the list
abbrev pub is_in : List ℕ → ℕ → Bool
is_in xs q = list_any (λ y. eqb y q) xs

-- tests that agree in a range
filter-range : (t u : ℕ → Bool) (a n : ℕ)
    → ((v : ℕ) → a ≤ v → t v ≡ u v)
    → filter t (range_with_len a n) ≡ filter u (range_with_len a n)
filter-range t u a zero each = refl
filter-range t u a (suc n) each =
    let rest = filter-range t u (a + 1) n (λ v low. each v (omega arith)) in
    elim (cases_Bool (u a)) [
      | inl on ↦ let also = each a (omega arith) ∙ on in rw (on, also) (ap (λ vs. a ∷ vs) rest)
      | inr off ↦ let also = each a (omega arith) ∙ off in rw (off, also) rest
    ]

filter-none : (t : ℕ → Bool) (a n : ℕ)
    → ((v : ℕ) → t v ≡ false)
    → filter t (range_with_len a n) ≡ []
filter-none t a zero none = refl
filter-none t a (suc n) none = rw (none a) (filter-none t (a + 1) n none)

same_list : {A : Type 0} (xs ys : List A) → xs ≡ ys → IsPermutation xs ys
same_list xs ys e = subst (λ zs. IsPermutation xs zs) e (IsPermutation-refl xs)

-- ---- the members of a list in ascending order

-- no number stands twice
abbrev pub AreDistinct : List ℕ → Type 0
AreDistinct [] = Unit {0}
AreDistinct (x ∷ xs) = (is_in xs x ≡ false) × AreDistinct xs

one_more : (t : ℕ → Bool) (x a n : ℕ)
    → t x ≡ false
    → a ≤ x
    → x < a + n
    → IsPermutation (x ∷ filter t (range_with_len a n))
    (filter (λ q. eqb x q || t q) (range_with_len a n))
one_more t x a zero off low high = absurd (omega arith)
one_more t x a (suc n) off low high = elim (cases_eq x a) [
  | inl e ↦
      let here = eq-eqb x a e in
      let out : t a ≡ false = ap t (sym e) ∙ off in
      let rest = filter-range t (λ q. eqb x q || t q) (a + 1) n
      (λ v above. ap (λ b. b || t v) (sym (ne_eqb x v (λ s. omega arith)))) in
      rw (here, out)
      (same_list (x ∷ filter t (range_with_len (a + 1) n))
      (a ∷ filter (λ q. eqb x q || t q) (range_with_len (a + 1) n))
      (ap₂ (λ (v : ℕ) vs. v ∷ vs) e rest))
  | inr ne ↦
      let apart = ne_eqb x a ne in
      let rest = one_more t x (a + 1) n off (omega arith) (omega arith) in
      elim (cases_Bool (t a)) [
        | inl on ↦ rw (apart, on)
            (IsPermutation-trans (x ∷ (a ∷ filter t (range_with_len (a + 1) n)))
            (a ∷ (x ∷ filter t (range_with_len (a + 1) n)))
            (a ∷ filter (λ q. eqb x q || t q) (range_with_len (a + 1) n))
            (IsPermutation-sym (a ∷ (x ∷ filter t (range_with_len (a + 1) n)))
            (x ∷ (a ∷ filter t (range_with_len (a + 1) n)))
            (IsPermutation-middle (a ∷ []) x (filter t (range_with_len (a + 1) n))))
            (IsPermutation-cons a (x ∷ filter t (range_with_len (a + 1) n))
            (filter (λ q. eqb x q || t q) (range_with_len (a + 1) n)) rest))
        | inr out ↦ rw (apart, out) rest
      ]
]

pub filter-permutes : (xs : List ℕ) (n : ℕ)
    → AreDistinct xs
    → All (λ v. v < n) xs
    → IsPermutation xs (filter (is_in xs) (range_with_len 0 n))
filter-permutes [] n distinct below = same_list [] (filter (is_in []) (range_with_len 0 n))
    (sym (filter-none (is_in []) 0 n (λ v. refl)))
filter-permutes (x ∷ xs) n distinct below =
    let rest = filter-permutes xs n distinct.1 (All-tail (λ v. v < n) x xs below) in
    let here : x < n = All-head (λ v. v < n) x xs below in
    IsPermutation-trans (x ∷ xs) (x ∷ filter (is_in xs) (range_with_len 0 n))
    (filter (is_in (x ∷ xs)) (range_with_len 0 n))
    (IsPermutation-cons x xs (filter (is_in xs) (range_with_len 0 n)) rest)
    (one_more (is_in xs) x 0 n distinct.0 (omega arith) (omega (arith, here)))

points-filter : (xs : List ℕ) (n : ℕ)
    → points_below (from_list xs) n ≡ filter (is_in xs) (range_with_len 0 n)
unfolding points_below
points-filter xs n = filter_agree (contains (from_list xs)) (is_in xs) (contains-from_list_nat xs)
    (range_with_len 0 n)

-- numbers of which none stands twice are the members of their set in another order
pub members-permute : (xs : List ℕ) (n : ℕ)
    → AreDistinct xs
    → All (λ v. v < n) xs
    → IsPermutation xs (points_below (from_list xs) n)
members-permute xs n distinct below = subst (λ ys. IsPermutation xs ys) (sym (points-filter xs n))
    (filter-permutes xs n distinct below)

-- ---- ascending lists

pub AreDistinct-rising : (xs : List ℕ) → AllPairs (λ x y. x < y) xs → AreDistinct xs
AreDistinct-rising [] rising = tt
AreDistinct-rising (x ∷ xs) rising = (
  list_any_none (λ y. eqb y x) xs (λ k d h. ne_eqb (get_or xs k d) x (λ e.
      let above : x < get_or xs k d = rising 0 (suc k) d (omega arith) (omega arith) in
      omega (arith, above, e))),
  AreDistinct-rising xs
      (λ i j d before inside. rising (suc i) (suc j) d (omega arith) (omega arith)),
)

pub filter-rising : (xs : List ℕ) (a n : ℕ)
    → AllPairs (λ x y. x < y) xs
    → All (λ v. a ≤ v) xs
    → All (λ v. v < a + n) xs
    → filter (is_in xs) (range_with_len a n) ≡ xs
filter-rising [] a n rising low high = filter-none (is_in []) a n (λ v. refl)
filter-rising (x ∷ xs) a zero rising low high =
    let l : a ≤ x = All-head (λ v. a ≤ v) x xs low in
    let h : x < a + zero = All-head (λ v. v < a + zero) x xs high in
    absurd (omega (arith, l, h))
filter-rising (x ∷ xs) a (suc n) rising low high =
    let l : a ≤ x = All-head (λ v. a ≤ v) x xs low in
    let later : AllPairs (λ x y. x < y) xs =
    λ i j d before inside. rising (suc i) (suc j) d (omega arith) (omega arith) in
    let above : All (λ v. x < v) xs = λ k d h. rising 0 (suc k) d (omega arith) (omega arith) in
    let small : All (λ v. v < (a + 1) + n) xs =
    All-weaker (λ v. v < a + suc n) (λ v. v < (a + 1) + n) (λ v lt. omega (arith, lt)) xs
    (All-tail (λ v. v < a + suc n) x xs high) in
    elim (cases_eq x a) [
      | inl e ↦
          let here = eq-eqb x a e in
          let rest = filter-range (is_in (x ∷ xs)) (is_in xs) (a + 1) n
          (λ v high. ap (λ b. b || is_in xs v) (ne_eqb x v (λ s. omega arith))) in
          rw here (ap₂ (λ (v : ℕ) vs. v ∷ vs) (sym e) (rest
          ∙ filter-rising xs (a + 1) n later
          (All-weaker (λ v. x < v) (λ v. a + 1 ≤ v) (λ v lt. omega (arith, lt, e)) xs above) small))
      | inr ne ↦
          let apart = ne_eqb x a ne in
          let more : a + 1 ≤ x = omega (arith, l, ne) in
          let none : is_in xs a ≡ false = list_any_none (λ y. eqb y a) xs
          (All-weaker (λ v. x < v) (λ v. eqb v a ≡ false)
          (λ v lt. ne_eqb v a (λ e. omega (arith, lt, l, e))) xs above) in
          let top : x < (a + 1) + n =
          (let h : x < a + suc n = All-head (λ v. v < a + suc n) x xs high in omega (arith, h)) in
          rw (apart, none)
          (filter-rising (x ∷ xs) (a + 1) n rising
          (All-cons (λ v. a + 1 ≤ v) x xs more
          (All-weaker (λ v. x < v) (λ v. a + 1 ≤ v) (λ v lt. omega (arith, lt, more)) xs above))
          (All-cons (λ v. v < (a + 1) + n) x xs top small))
    ]

-- an ascending list is that of the members of its set
pub members-ascending : (xs : List ℕ) (n : ℕ)
    → IsStrictlyIncreasing xs
    → All (λ v. v < n) xs
    → points_below (from_list xs) n ≡ xs
members-ascending xs n up below = points-filter xs n
    ∙ filter-rising xs 0 n (AllPairs-from_increasing xs up) (λ k d h. omega arith)
    (All-weaker (λ v. v < n) (λ v. v < 0 + n) (λ v lt. omega (arith, lt)) xs below)

-- the numbers below n that pass a test
pub rising_range : (t : ℕ → Bool) (n : ℕ) → AllPairs (λ x y. x < y) (filter t (range_with_len 0 n))
rising_range t n = AllPairs-filter (λ x y. x < y) t (range_with_len 0 n) (λ i j d before inside.
    let len = length-range_with_len 0 n in
    let first = get_or-range_with_len 0 n i d (omega arith) in
    let second = get_or-range_with_len 0 n j d (omega arith) in
    omega arith)

pub AreDistinct-range : (t : ℕ → Bool) (n : ℕ) → AreDistinct (filter t (range_with_len 0 n))
AreDistinct-range t n = AreDistinct-rising (filter t (range_with_len 0 n)) (rising_range t n)

-- ---- the image of a line

-- it ascends
pub image_line-rising : (f : ℕ → ℕ) (n : ℕ) (line : List ℕ)
    → AllPairs (λ x y. x < y) (image_line f n line)
unfolding points_below
image_line-rising f n line = rising_range (contains (from_list (map f line))) n

pub AreDistinct-map : (f back : ℕ → ℕ) (n : ℕ) (xs : List ℕ)
    → AreInverse n f back
    → AreDistinct xs
    → All (λ v. v < n) xs
    → AreDistinct (map f xs)
AreDistinct-map f back n [] inverse distinct below = tt
AreDistinct-map f back n (x ∷ xs) inverse distinct below =
    let here : x < n = All-head (λ v. v < n) x xs below in
    let rest = All-tail (λ v. v < n) x xs below in (
      list_any-through f (λ y. eqb y (f x)) xs
          ∙ list_any-same (λ v. eqb (f v) (f x)) (λ v. eqb v x) xs
          (All-weaker (λ v. v < n) (λ v. eqb (f v) (f x) ≡ eqb v x)
          (λ v lt. same v lt here) xs rest)
          ∙ distinct.0,
      AreDistinct-map f back n xs inverse distinct.1 rest,
    )
  where
    same : (v : ℕ) → v < n → x < n → eqb (f v) (f x) ≡ eqb v x
    same v lt here = elim (cases_eq v x) [
      | inl e ↦ eq-eqb (f v) (f x) (ap f e) ∙ sym (eq-eqb v x e)
      | inr ne ↦ ne_eqb (f v) (f x)
          (λ e. ne (sym (inverse.undone v lt) ∙ ap back e ∙ inverse.undone x here))
          ∙ sym (ne_eqb v x ne)
    ]

pub All-through : (f : ℕ → ℕ) (P : ℕ → Type 0) (xs : List ℕ)
    → All (λ v. P (f v)) xs
    → All P (map f xs)
All-through f P [] each = λ k d h. absurd (omega arith)
All-through f P (x ∷ xs) each = All-cons P (f x) (map f xs) (All-head (λ v. P (f v)) x xs each)
    (All-through f P xs (All-tail (λ v. P (f v)) x xs each))

-- the points of the image are the images of the points
pub image_line-permutes : (f back : ℕ → ℕ) (n : ℕ) (line : List ℕ)
    → AreInverse n f back
    → IsStrictlyIncreasing line
    → All (λ v. v < n) line
    → IsPermutation (map f line) (image_line f n line)
image_line-permutes f back n line inverse up below = members-permute (map f line) n
    (AreDistinct-map f back n line inverse
    (AreDistinct-rising line (AllPairs-from_increasing line up)) below)
    (All-through f (λ v. v < n) line
    (All-weaker (λ v. v < n) (λ v. f v < n) (λ v lt. inverse.range v lt) line below))

same_members : (xs ys : List ℕ) (n : ℕ)
    → ((q : ℕ) → is_in xs q ≡ is_in ys q)
    → points_below (from_list xs) n ≡ points_below (from_list ys) n
same_members xs ys n same = ap (λ (s : FinSet nat_cmp). points_below s n)
    (same_points (from_list xs) (from_list ys)
    (λ q. contains-from_list_nat xs q ∙ same q ∙ sym (contains-from_list_nat ys q)))

-- the images of the points in ascending order are the image
pub image_line-from_sorted : (f : ℕ → ℕ) (n : ℕ) (line image : List ℕ)
    → IsPermutation (map f line) image
    → IsStrictlyIncreasing image
    → All (λ v. v < n) image
    → image ≡ image_line f n line
image_line-from_sorted f n line image moved up below = sym (members-ascending image n up below)
    ∙ same_members image (map f line) n
    (λ q. sym (list_any-IsPermutation (λ y. eqb y q) (map f line) image moved))

-- ---- maps that take the lines onto the lines are a group

-- maps that agree at the points of a line take it to the same line
pub image_line-same : (f h : ℕ → ℕ) (n : ℕ) (line : List ℕ)
    → ((v : ℕ) → v < n → f v ≡ h v)
    → All (λ v. v < n) line
    → image_line f n line ≡ image_line h n line
image_line-same f h n line same below =
    same_members (map f line) (map h line) n (λ q. list_any-through f (λ y. eqb y q) line
    ∙ list_any-same (λ v. eqb (f v) q) (λ v. eqb (h v) q) line (All-weaker (λ v. v < n)
    (λ v. eqb (f v) q ≡ eqb (h v) q) (λ v lt. ap (λ m. eqb m q) (same v lt)) line below)
    ∙ sym (list_any-through h (λ y. eqb y q) line))

image_line-itself : (f : ℕ → ℕ) (n : ℕ) (line : List ℕ)
    → ((v : ℕ) → v < n → f v ≡ v)
    → IsStrictlyIncreasing line
    → All (λ v. v < n) line
    → image_line f n line ≡ line
image_line-itself f n line same up below = image_line-same f (λ v. v) n line same below
    ∙ ap (λ vs. points_below (from_list vs) n) (map_itself line)
    ∙ members-ascending line n up below
  where
    map_itself : (xs : List ℕ) → map (λ v. v) xs ≡ xs
    map_itself [] = refl
    map_itself (x ∷ xs) = ap (λ vs. x ∷ vs) (map_itself xs)

image_line-followed : (f back h : ℕ → ℕ) (n : ℕ) (line : List ℕ)
    → AreInverse n f back
    → IsStrictlyIncreasing line
    → All (λ v. v < n) line
    → image_line h n (image_line f n line) ≡ image_line (λ v. h (f v)) n line
image_line-followed f back h n line inverse up below = same_members (map h (image_line f n line))
    (map (λ v. h (f v)) line) n (λ q. list_any-through h (λ y. eqb y q) (image_line f n line)
    ∙ sym (list_any-IsPermutation (λ v. eqb (h v) q) (map f line) (image_line f n line)
    (image_line-permutes f back n line inverse up below))
    ∙ list_any-through f (λ v. eqb (h v) q) line
    ∙ sym (list_any-through (λ v. h (f v)) (λ y. eqb y q) line))

pub map-each : {A B : Type 0} (f h : A → B) (xs : List A)
    → All (λ x. f x ≡ h x) xs
    → map f xs ≡ map h xs
map-each f h [] each = refl
map-each f h (x ∷ xs) each = ap₂ (λ y ys. y ∷ ys) (All-head (λ v. f v ≡ h v) x xs each)
    (map-each f h xs (All-tail (λ v. f v ≡ h v) x xs each))

map-again : {A B C : Type 0} (h : B → C) (f : A → B) (xs : List A)
    → map h (map f xs) ≡ map (λ x. h (f x)) xs
map-again h f [] = refl
map-again h f (x ∷ xs) = ap (λ ys. h (f x) ∷ ys) (map-again h f xs)

images-followed : (f back h : ℕ → ℕ) (n : ℕ) (lines : List (List ℕ))
    → AreInverse n f back
    → All (IsRow n) lines
    → map (image_line h n) (map (image_line f n) lines) ≡ map (image_line (λ v. h (f v)) n) lines
images-followed f back h n lines inverse rows = map-again (image_line h n) (image_line f n) lines
    ∙ map-each (λ line. image_line h n (image_line f n line)) (image_line (λ v. h (f v)) n) lines
    (All-weaker (IsRow n)
    (λ line. image_line h n (image_line f n line) ≡ image_line (λ v. h (f v)) n line)
    (λ line row. image_line-followed f back h n line inverse row.up row.below) lines rows)

-- one map and then another
pub AreSameLines-followed : (f back h : ℕ → ℕ) (n : ℕ) (lines : List (List ℕ))
    → AreInverse n f back
    → All (IsRow n) lines
    → AreSameLines f n lines
    → AreSameLines h n lines
    → AreSameLines (λ v. h (f v)) n lines
AreSameLines-followed f back h n lines inverse rows first second =
    subst (λ images. IsPermutation images lines) (images-followed f back h n lines inverse rows)
    (IsPermutation-trans (map (image_line h n) (map (image_line f n) lines))
    (map (image_line h n) lines) lines
    (IsPermutation-map (image_line h n) (map (image_line f n) lines) lines first) second)

-- the map that undoes it
pub AreSameLines-back : (f back : ℕ → ℕ) (n : ℕ) (lines : List (List ℕ))
    → AreInverse n f back
    → All (IsRow n) lines
    → AreSameLines f n lines
    → AreSameLines back n lines
AreSameLines-back f back n lines inverse rows same =
    let restored : map (image_line (λ v. back (f v)) n) lines ≡ lines =
    map-each (image_line (λ v. back (f v)) n) (λ line. line) lines
    (All-weaker (IsRow n) (λ line. image_line (λ v. back (f v)) n line ≡ line) (λ line row.
    image_line-itself (λ v. back (f v)) n line inverse.undone row.up row.below) lines rows)
    ∙ map_rows lines in
    subst (λ images. IsPermutation (map (image_line back n) lines) images)
    (images-followed f back back n lines inverse rows ∙ restored)
    (IsPermutation-sym (map (image_line back n) (map (image_line f n) lines))
    (map (image_line back n) lines)
    (IsPermutation-map (image_line back n) (map (image_line f n) lines) lines same))
  where
    map_rows : (xs : List (List ℕ)) → map (λ line. line) xs ≡ xs
    map_rows [] = refl
    map_rows (x ∷ xs) = ap (λ ys. x ∷ ys) (map_rows xs)

-- a map that leaves every point
pub AreSameLines-itself : (f : ℕ → ℕ) (n : ℕ) (lines : List (List ℕ))
    → ((v : ℕ) → v < n → f v ≡ v)
    → All (IsRow n) lines
    → AreSameLines f n lines
AreSameLines-itself f n lines stays rows =
    same_list (map (image_line f n) lines) lines (each lines rows)
  where
    each : (lines : List (List ℕ)) → All (IsRow n) lines → map (image_line f n) lines ≡ lines
    each [] rows = refl
    each (line ∷ lines) rows =
        let row : IsRow n line = All-head (IsRow n) line lines rows in
        ap₂ (λ first others. first ∷ others) (image_line-itself f n line stays row.up row.below)
        (each lines (All-tail (IsRow n) line lines rows))
