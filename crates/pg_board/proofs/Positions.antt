-- Free points, sums over them, and points in lines, before and after a play.
use Rattle.std.proofs.Common.{◌≡◌, ◌≢◌, ℕ, zero, suc, ◌+◌, ◌<◌, ◌≤◌, Bool, true, false, not, ◌&&◌}
use Rattle.std.proofs.Common.{◌||◌, List, [], ◌∷◌, length, eqb, if◌then◌else◌, refl, sym, ap, ◌∙◌}
use Rattle.std.proofs.Common.{arith, inl, inr}
use Rattle.pg_board.proofs.Common.{cases_Bool, cases_eq, eq-eqb, ne_eqb, and_right, false≢true}
use Rattle.pg_board.proofs.Common.{or_cases, or_parts, length-filter, count_by, range_with_len}
use Rattle.pg_board.proofs.Common.{Contains, IsStrictlyIncreasing, FinSet, contains, nat_cmp}
use Rattle.pg_board.proofs.Common.{is_same_side, in_insert, one_if, Side, X, Y, Position, is_free}
use Rattle.pg_board.proofs.Common.{points_of, after_with, x_after, y_after, is_on, without}
use Rattle.pg_base.proofs.LineLemmas.{count-ascending}
use Rattle.pg_board.specs.Shape.{Shape}
use Rattle.pg_board.specs.Fits.{summed, free_points_in}
use Rattle.pg_board.proofs.Ranges.{count-one, filter-same, filter-both, in_filtered}

-- ---- free points after a play

free_after_x : (e a b : Bool) → (not (e || a) && not b) ≡ (not e && (not a && not b))
free_after_x true a b = refl
free_after_x false a b = refl

free_after_y : (e a b : Bool) → (not a && not (e || b)) ≡ (not e && (not a && not b))
free_after_y true true b = refl
free_after_y true false b = refl
free_after_y false a b = refl

free_at : (x y : FinSet nat_cmp) (turn : Side) (v q : ℕ)
    → (not (contains (x_after turn x v) q) && not (contains (y_after turn y v) q))
    ≡ (not (eqb q v) && (not (contains x q) && not (contains y q)))
free_at x y X v q = ap (λ b. not b && not (contains y q)) (in_insert x v q)
    ∙ free_after_x (eqb q v) (contains x q) (contains y q)
free_at x y Y v q = ap (λ b. not (contains x q) && not b) (in_insert y v q)
    ∙ free_after_y (eqb q v) (contains x q) (contains y q)

pub free-after : (bias : ℕ) (p : Position) (v q : ℕ)
    → is_free (after_with bias p v) q ≡ (not (eqb q v) && is_free p q)
free-after bias p v q = free_at p.x p.y p.turn v q

pub free-other : (bias : ℕ) (p : Position) (v q : ℕ)
    → q ≢ v
    → is_free (after_with bias p v) q ≡ is_free p q
free-other bias p v q ne = free-after bias p v q ∙ rw (ne_eqb q v ne) refl

pub free-gone : (bias : ℕ) (p : Position) (v : ℕ) → is_free (after_with bias p v) v ≡ false
free-gone bias p v = free-after bias p v v ∙ rw (eq-eqb v v refl) refl

-- the list without the point
pub free-without : (s : Shape) (bias : ℕ) (p : Position) (v : ℕ)
    → without v (free_points_in s p) ≡ free_points_in s (after_with bias p v)
unfolding free_points_in
free-without s bias p v = filter-both (is_free p) (λ q. not (eqb v q)) (range_with_len 0 s.points)
    ∙ filter-same (is_free (after_with bias p v)) (λ q. is_free p q && not (eqb v q)) 0 s.points
    (λ q low high. elim (cases_eq q v) [
      | inl e ↦ rw e (and_right _ _ (ap not (eq-eqb v v refl)) ∙ sym (free-gone bias p v))
      | inr ne ↦
          let here : not (eqb v q) ≡ true = ap not (ne_eqb v q (λ e. ne (sym e))) in
          sym (free-other bias p v q ne
          ∙ sym (rw here (elim (cases_Bool (is_free p q)) [
            | inl on ↦ rw on refl
            | inr off ↦ rw off refl
          ])))
    ])

pub free-member : (s : Shape) (p : Position) (v : ℕ)
    → v < s.points
    → is_free p v ≡ true
    → Contains (free_points_in s p) v
unfolding free_points_in
free-member s p v low free = in_filtered (is_free p) v 0 s.points (omega arith) (omega arith) free

pub one-fewer : (s : Shape) (bias : ℕ) (p : Position) (v : ℕ)
    → v < s.points
    → is_free p v ≡ true
    → length (free_points_in s (after_with bias p v)) + 1 ≡ length (free_points_in s p)
unfolding free_points_in
one-fewer s bias p v low free =
    let one = count-one (is_free p) (is_free (after_with bias p v)) v 0 s.points (omega arith)
    (omega arith) (λ q lower higher ne. free-other bias p v q ne) in
    let was = ap one_if free in
    let gone = ap one_if (free-gone bias p v) in
    omega (
      arith,
      length-filter (is_free p) (range_with_len 0 s.points),
      length-filter (is_free (after_with bias p v)) (range_with_len 0 s.points),
    )

-- ---- sums over free points

pub summed-same : (f : ℕ → ℕ) (t u : ℕ → Bool) (n : ℕ)
    → ((q : ℕ) → q < n → u q ≡ t q)
    → summed f u n ≡ summed f t n
unfolding summed
summed-same f t u zero same = refl
summed-same f t u (suc n) same =
    let rest = summed-same f t u n (λ q low. same q (omega arith)) in
    let here = ap {B = ℕ} (λ (b : Bool). if b then f n else 0) (same n (omega arith)) in
    omega arith

pub summed-without : (f : ℕ → ℕ) (t u : ℕ → Bool) (v n : ℕ)
    → v < n
    → t v ≡ true
    → u v ≡ false
    → ((q : ℕ) → q < n → q ≢ v → u q ≡ t q)
    → summed f u n + f v ≡ summed f t n
unfolding summed
summed-without f t u v zero low on off same = absurd (omega arith)
summed-without f t u v (suc n) low on off same = elim (cases_eq v n) [
  | inl e ↦
      let rest = summed-same f t u n (λ q under. same q (omega arith) (λ h. omega arith)) in
      let was : (if t n then f n else 0) ≡ f v =
      ap {B = ℕ} (λ (b : Bool). if b then f n else 0) (ap t (sym e) ∙ on) ∙ ap f (sym e) in
      let now : (if u n then f n else 0) ≡ 0 =
      ap {B = ℕ} (λ (b : Bool). if b then f n else 0) (ap u (sym e) ∙ off) in
      omega arith
  | inr ne ↦
      let rest =
      summed-without f t u v n (omega arith) on off (λ q under apart. same q (omega arith) apart) in
      let here =
      ap {B = ℕ} (λ (b : Bool). if b then f n else 0) (same n (omega arith) (λ h. ne (sym h))) in
      omega arith
]

-- ---- points in lines

list-cons : (p : ℕ → Bool) (x : ℕ) (xs : List ℕ)
    → count_by p (x ∷ xs) ≡ one_if (p x) + count_by p xs
list-cons p x xs = Rattle.pg_board.proofs.Ranges.count-cons p x xs

-- one member more in the set
pub count-insert : (a b : ℕ → Bool) (v : ℕ) (line : List ℕ)
    → ((q : ℕ) → b q ≡ (eqb q v || a q))
    → a v ≡ false
    → count_by b line ≡ count_by a line + count_by (λ q. eqb q v) line
count-insert a b v [] more off = refl
count-insert a b v (x ∷ line) more off =
    let rest = count-insert a b v line more off in
    let first_a = list-cons a x line in
    let first_b = list-cons b x line in
    let first_v = list-cons (λ q. eqb q v) x line in
    let here : one_if (b x) ≡ one_if (a x) + one_if (eqb x v) = ap one_if (more x)
    ∙ (elim (cases_eq x v) [
      | inl e ↦ let gone : a x ≡ false = ap a e ∙ off in rw (eq-eqb x v e, gone) refl
      | inr ne ↦ rw (ne_eqb x v ne) (omega arith)
    ]) in
    omega arith

pub some-at : (v : ℕ) (line : List ℕ) → is_on v line ≡ true → 1 ≤ count_by (λ q. eqb q v) line
some-at v [] on = absurd (false≢true on)
some-at v (x ∷ line) on =
    let first = list-cons (λ q. eqb q v) x line in
    elim (or_cases (eqb x v) (is_on v line) on) [
      | inl here ↦ let one = ap one_if here in omega arith
      | inr there ↦ let rest = some-at v line there in omega arith
    ]

none-at : (v : ℕ) (line : List ℕ) → is_on v line ≡ false → count_by (λ q. eqb q v) line ≡ 0
none-at v [] off = refl
none-at v (x ∷ line) off =
    let first = list-cons (λ q. eqb q v) x line in
    let parts = or_parts (eqb x v) (is_on v line) off in
    let one = ap one_if parts.0 in
    let rest = none-at v line parts.1 in
    omega arith

-- an ascending line has a point once or never
pub once : (v : ℕ) (line : List ℕ)
    → IsStrictlyIncreasing line
    → count_by (λ q. eqb q v) line ≡ one_if (is_on v line)
once v line up = elim (cases_Bool (is_on v line)) [
  | inl on ↦
      let few = count-ascending v line up in
      let some = some-at v line on in
      let one = ap one_if on in
      omega arith
  | inr off ↦ let none = none-at v line off in let zero = ap one_if off in omega arith
]

-- three disjoint tests pass no more members than there are
pub three-few : (a b : ℕ → Bool) (v : ℕ) (line : List ℕ)
    → ((q : ℕ) → a q ≡ true → b q ≡ false)
    → a v ≡ false
    → b v ≡ false
    → count_by a line + count_by b line + count_by (λ q. eqb q v) line ≤ length line
three-few a b v [] apart a_off b_off = omega arith
three-few a b v (x ∷ line) apart a_off b_off =
    let rest = three-few a b v line apart a_off b_off in
    let first_a = list-cons a x line in
    let first_b = list-cons b x line in
    let first_v = list-cons (λ q. eqb q v) x line in
    elim (cases_eq x v) [
      | inl e ↦
          let none_a = ap one_if (ap a e ∙ a_off) in
          let none_b = ap one_if (ap b e ∙ b_off) in
          let one = ap one_if (eq-eqb x v e) in
          omega arith
      | inr ne ↦
          let none = ap one_if (ne_eqb x v ne) in
          elim (cases_Bool (a x)) [
            | inl on ↦ let one = ap one_if on in let no = ap one_if (apart x on) in omega arith
            | inr off ↦
                let no = ap one_if off in
                let few = Rattle.pg_board.proofs.Ranges.one_if-few (b x) in
                omega arith
          ]
    ]

-- ---- a side's points in a line after a play

pub points-after : (bias : ℕ) (p : Position) (k : Side) (v q : ℕ)
    → contains (points_of (after_with bias p v) k) q
    ≡ ((is_same_side k p.turn && eqb q v) || contains (points_of p k) q)
points-after bias p k v q = by_turn k p.turn p.x p.y v q
  where
    by_turn : (k turn : Side) (x y : FinSet nat_cmp) (v q : ℕ)
        → contains (points_of (let r : Position = record {
          x = x_after turn x v;
          y = y_after turn y v;
          turn = turn;
          left = 0;
        } in
        r) k) q ≡ ((is_same_side k turn && eqb q v)
        || contains (points_of (let r : Position = record {
          x = x;
          y = y;
          turn = turn;
          left = 0;
        } in r) k) q)
    by_turn X X x y v q = in_insert x v q
    by_turn X Y x y v q = refl
    by_turn Y X x y v q = refl
    by_turn Y Y x y v q = in_insert y v q

pub count-after : (bias : ℕ) (p : Position) (k : Side) (v : ℕ) (line : List ℕ)
    → IsStrictlyIncreasing line
    → contains (points_of p k) v ≡ false
    → count_by (contains (points_of (after_with bias p v) k)) line
    ≡ count_by (contains (points_of p k)) line + one_if (is_same_side k p.turn && is_on v line)
count-after bias p k v line up off = elim (cases_Bool (is_same_side k p.turn)) [
  | inl mine ↦
      let more =
      count-insert (contains (points_of p k)) (contains (points_of (after_with bias p v) k)) v line
      (λ q. points-after bias p k v q ∙ rw mine refl) off in
      let one = once v line up in
      let here = ap one_if (ap (λ b. b && is_on v line) mine) in
      omega arith
  | inr theirs ↦
      let same = list-same (contains (points_of p k)) (contains (points_of (after_with bias p v) k))
      line (λ q. points-after bias p k v q ∙ rw theirs refl) in
      let none = ap one_if (ap (λ b. b && is_on v line) theirs) in
      omega arith
]
  where
    list-same : (a b : ℕ → Bool) (xs : List ℕ)
        → ((q : ℕ) → b q ≡ a q)
        → count_by b xs ≡ count_by a xs
    list-same a b [] same = refl
    list-same a b (x ∷ xs) same =
        let rest = list-same a b xs same in
        let here = ap one_if (same x) in
        omega (arith, list-cons a x xs, list-cons b x xs)
