-- The weights of lines by their masks.
use Rattle.std.proofs.Common.{◌≡◌, ◌∙◌, ◌==◌, ℕ, ◌+◌, ◌-◌, ◌*◌, ◌^◌, ◌<◌, ◌≤◌, Bool}
use Rattle.std.proofs.Common.{true, false, not, cond, ◌&&◌, ◌||◌, List, [], ◌∷◌, length, map}
use Rattle.std.proofs.Common.{get_or}
use Rattle.std.proofs.Common.{Some, slice_get, refl, sym, ap, eqb-true, inl, inr}
use Rattle.std.proofs.Common.{arith}
use Rattle.std.specs.Prelude.{option_map}
use Rattle.std.proofs.lemmas.Bool.{or_parts}
use Rattle.std.proofs.lemmas.List.Sums.{sum_by-cons}
use Rattle.pg_game.proofs.LineSums.{full_weight-is, line_weight-clear}
use Rattle.pg_game.proofs.WeightBounds.{IsBaseOf-bias, greatest_length-few}
use Rattle.std.specs.List.{All}
use Rattle.pg_potential.proofs.Common.{AreBelow, Contains, FinSet, Game, IsPosition, Position}
use Rattle.pg_potential.proofs.Common.{ShareNone, Side, X, Y, contains, count_by, in_from_list}
use Rattle.pg_potential.proofs.Common.{greatest_length, line_weight, lines_of}
use Rattle.pg_potential.proofs.Common.{is_free, list_any-none, member-from_any, nat_cmp}
use Rattle.pg_potential.proofs.Common.{point_count, points_of, slice_get-get_or, slice_get-map}
use Rattle.pg_potential.proofs.Common.{Contains-head, Contains-tail, or_cases, or_left, or_right}
use Rattle.pg_potential.specs.Masks.{AreMarked, AreMasks, IsWeighing, clear_weight, set_of}
use Rattle.pg_potential.specs.declared.masks.Mask.{Mask}
use Rattle.pg_potential.proofs.LineMasks.{masks-many, member-in}

-- the line of a mask
pub line-at : (lines : List (List ℕ)) (masks : List Mask) (i : ℕ) (m : Mask) (d : List ℕ)
    → AreMasks lines masks
    → i < length masks
    → m ≡ get_or masks i m
    → m.line.items ≡ get_or lines i d
line-at lines masks i m d are lt is =
    let many = masks-many lines masks are in
    let mine : slice_get (map (λ (n : Mask). n.line.items) masks) i ≡ Some m.line.items =
    slice_get-map (λ (n : Mask). n.line.items) masks i
    ∙ ap (option_map (λ (n : Mask). n.line.items))
    (slice_get-get_or masks i m lt ∙ ap Some (sym is)) in
    let both : Some m.line.items ≡ Some (get_or lines i d) = sym mine
    ∙ ap (λ (ls : List (List ℕ)). slice_get ls i) are.each
    ∙ slice_get-get_or lines i d (omega (arith, lt, many)) in
    cc

-- ---- a line without marks

count-all : {A : Type 0} (t : A → Bool) (xs : List A)
    → ((x : A) → Contains xs x → t x ≡ true)
    → length xs ≡ count_by t xs
count-all {A = A} t [] each = refl
count-all {A = A} t (x ∷ xs) each =
    let first : ◌≡◌ {A = ℕ} (cond (t x) 1 0) 1 =
    ap (λ (b : Bool). cond b 1 0) (each x (Contains-head x xs)) in
    let rest = count-all t xs (λ y c. each y (Contains-tail x y xs c)) in
    let whole = sum_by-cons (λ (y : A). cond (t y) 1 0) x xs in
    omega (arith, first, rest, whole)

side-off : (p : Position) (side : Side) (v : ℕ)
    → contains p.x v ≡ false
    → contains p.y v ≡ false
    → contains (points_of p side) v ≡ false
side-off p X v x y = x
side-off p Y v x y = y

not_or : (a b : Bool) → not (a || b) ≡ (not a && not b)
not_or true b = refl
not_or false b = refl

both-off : (a b : Bool) → a ≡ false → b ≡ false → (not a && not b) ≡ true
both-off a b ea eb = rw (ea, eb) refl

module _ (marked : FinSet nat_cmp) (p : Position) (marks : AreMarked marked p) where
  off : (line : List ℕ)
      → ShareNone (set_of line) marked
      → (v : ℕ) → Contains line v → (contains p.x v ≡ false) × (contains p.y v ≡ false)
  off line apart v c = or_parts (contains p.x v) (contains p.y v)
      (sym (marks v) ∙ apart v (member-in line v c))

  free-is : (v : ℕ) → not (contains marked v) ≡ is_free p v
  free-is v = ap not (marks v) ∙ not_or (contains p.x v) (contains p.y v)

  -- the points without a mark are free
  pub count-free : (line : List ℕ)
      → count_by (λ v. not (contains marked v)) line ≡ count_by (is_free p) line
  count-free [] = refl
  count-free (v ∷ line) =
      let first = ap {B = ℕ} (λ (b : Bool). cond b 1 0) (free-is v) in
      let rest = count-free line in
      let mine = sum_by-cons (λ (q : ℕ). cond (not (contains marked q)) 1 0) v line in
      let whole = sum_by-cons (λ (q : ℕ). cond (is_free p q) 1 0) v line in
      omega (arith, first, rest, mine, whole)

-- what a line without marks weighs
pub clear-is : (base k : ℕ) (marked : FinSet nat_cmp) (p : Position) (side : Side) (line : List ℕ)
    → AreMarked marked p
    → ShareNone (set_of line) marked
    → clear_weight base k line ≡ line_weight base k (points_of p side) p line
clear-is base k marked p side line marks apart =
    let none = off marked p marks line apart in
    let untouched = list_any-none (contains (points_of p side)) line
    (λ v c. let both = none v c in side-off p side v both.0 both.1) in
    let all = count-all (is_free p) line
    (λ v c. let both = none v c in both-off _ _ both.0 both.1) in
    ap (λ n. base ^ (k - n)) all
    ∙ sym (line_weight-clear base k (points_of p side) p line untouched)

-- a side's points are among the marks
pub own-below : (marked : FinSet nat_cmp) (p : Position) (side : Side) (width : ℕ)
    (own : FinSet nat_cmp)
    → own ≡ points_of p side
    → AreMarked marked p
    → AreBelow marked (64 * width)
    → AreBelow own (64 * width)
own-below marked p X width own is marks below v on =
    below v (marks v ∙ or_left (contains p.x v) (contains p.y v)
    (ap (λ (s : FinSet nat_cmp). contains s v) (sym is) ∙ on))
own-below marked p Y width own is marks below v on =
    below v (marks v ∙ or_right (contains p.x v) (contains p.y v)
    (ap (λ (s : FinSet nat_cmp). contains s v) (sym is) ∙ on))

-- the base and the greatest length of a game
pub weighing : (g : Game) (n k : ℕ)
    → n ≡ g.bias
    → k ≡ greatest_length (lines_of g)
    → IsWeighing (1 + n) k
weighing g n k bias is = record {
  some = omega arith;
  few = omega (arith, is, greatest_length-few g);
  fits = omega (arith, full_weight-is (1 + n) g k is, (IsBaseOf-bias g n bias).few);
}

-- ---- the words that hold all points

pub line-below : (line : List ℕ) (count width : ℕ)
    → All (λ v. v < count) line
    → count ≤ 64 * width
    → AreBelow (set_of line) (64 * width)
line-below line count width range fits v on =
    let found = member-from_any (λ (q : ℕ). q == v) line (sym (in_from_list line v) ∙ on) in
    let lt : get_or line found.1.0 found.0 < count = range found.1.0 found.0 found.1.1 in
    let at : get_or line found.1.0 found.0 ≡ found.0 = found.1.2 in
    let is : found.0 ≡ v = eqb-true found.0 v found.2 in
    omega (arith, lt, at, is, fits)

pub marks-below : (g : Game) (p : Position) (marked : FinSet nat_cmp) (width : ℕ)
    → IsPosition g p
    → AreMarked marked p
    → point_count g ≤ 64 * width
    → AreBelow marked (64 * width)
marks-below g p marked width position marks fits v on =
    elim (or_cases (contains p.x v) (contains p.y v) (sym (marks v) ∙ on)) [
      | inl x ↦ let lt = position.x_range v x in omega (arith, lt, fits)
      | inr y ↦ let lt = position.y_range v y in omega (arith, lt, fits)
    ]
