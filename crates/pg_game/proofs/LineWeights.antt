-- How the weights of lines change with a move.
use Rattle.std.proofs.Common.{◌≡◌, ℕ, suc, ◌+◌, ◌-◌, ◌*◌, ◌^◌, ◌<◌, ◌≤◌, Bool, true, false, cond}
use Rattle.std.proofs.Common.{not, ◌&&◌, ◌||◌, ◌==◌, List, [], ◌∷◌, length, eqb, refl, sym, ap, ap₂}
use Rattle.std.proofs.Common.{◌∙◌, subst, inl, inr, eq-eqb, ne_eqb, arith, pow-suc, if◌then◌else◌}
use Rattle.pg_game.proofs.Common.{cases_Bool, cases_eq, false≢true, sum_by-cons, count_by-le-length}
use Rattle.pg_game.proofs.Common.{get_or-le-sum_by, mul-add, add-mul, mul_comm, list_any, count_by}
use Rattle.pg_game.proofs.Common.{sum_by, Contains, FinSet, contains, insert, nat_cmp, Side, other}
use Rattle.pg_game.proofs.Common.{ShareNone, in_insert}
use Rattle.pg_base.proofs.LineLemmas.{count-ascending}
use Rattle.pg_game.specs.declared.game.Game.{Game}
use Rattle.pg_game.specs.declared.position.Position.{Position}
use Rattle.pg_game.specs.Position.{is_free, points_of}
use Rattle.pg_game.specs.Game.{is_touched, is_filled, has_filled, lines_of, after}
use Rattle.pg_game.specs.Potential.{greatest_length, is_on, line_weight, total_weight, point_weight}
use Rattle.pg_game.specs.Potential.{full_weight}
use Rattle.pg_game.proofs.Members.{true-at, false-at, list_any-none, member-from_any, Contains-head}
use Rattle.pg_game.proofs.Members.{Contains-tail}
use Rattle.pg_game.proofs.FreePoints.{is_free-after}
use Rattle.pg_game.proofs.Moves.{free-of, apart}
use Rattle.pg_game.proofs.LineSums.{sum-le, length-le-greatest}
use Rattle.pg_game.proofs.WeightBounds.{line-fit}

-- ---- sums

pub sum-add : {X : Type 0} (f h k : X → ℕ) (xs : List X)
    → ((x : X) → Contains xs x → f x + h x ≡ k x)
    → sum_by f xs + sum_by h xs ≡ sum_by k xs
sum-add f h k [] each = refl
sum-add f h k (x ∷ xs) each =
    let here = each x (Contains-head x xs) in
    let rest = sum-add f h k xs (λ y c. each y (Contains-tail x y xs c)) in
    omega (arith, here, rest, sum_by-cons f x xs, sum_by-cons h x xs, sum_by-cons k x xs)

sum-times : {X : Type 0} (q : ℕ) (f : X → ℕ) (xs : List X)
    → sum_by (λ x. q * f x) xs ≡ q * sum_by f xs
sum-times q f [] = omega arith
sum-times q f (x ∷ xs) =
    let rest = sum-times q f xs in
    let split = mul-add q (f x) (sum_by f xs) in
    let here = ap (λ n. q * n) (sum_by-cons f x xs) in
    omega (arith, rest, split, here, sum_by-cons (λ x. q * f x) x xs)

pub member-le-sum : {X : Type 0} (f : X → ℕ) (xs : List X) (x : X)
    → Contains xs x
    → f x ≤ sum_by f xs
member-le-sum f xs x c = subst (λ y. f y ≤ sum_by f xs) c.2 (get_or-le-sum_by f xs c.0 x c.1)

-- ---- the free points of a line

-- one fewer for each place of the point
count-free_point : (g : Game) (p : Position) (v q : ℕ)
    → is_free p v ≡ true
    → cond (is_free (after g p v) q) 1 0 + cond (q == v) 1 0 ≡ cond (is_free p q) 1 0
count-free_point g p v q free = elim (cases_eq q v) [
  | inl e ↦
      let gone : is_free (after g p v) q ≡ false =
      is_free-after g p v q ∙ ap (λ b. not b && is_free p q) (eq-eqb q v e) in
      let was : is_free p q ≡ true = ap (is_free p) e ∙ free in
      ap₂ (λ (a b : Bool). cond a 1 0 + cond b 1 0) gone (eq-eqb q v e)
      ∙ sym (ap (λ b. cond b 1 0) was)
  | inr ne ↦
      let same : is_free (after g p v) q ≡ is_free p q =
      is_free-after g p v q ∙ ap (λ b. not b && is_free p q) (ne_eqb q v ne) in
      ap₂ (λ (a b : Bool). cond a 1 0 + cond b 1 0) same (ne_eqb q v ne)
      ∙ plus_zero (cond (is_free p q) 1 0)
]
  where
    plus_zero : (n : ℕ) → n + 0 ≡ n
    plus_zero n = omega arith

count-free : (g : Game) (p : Position) (v : ℕ) (line : List ℕ)
    → is_free p v ≡ true
    → count_by (is_free (after g p v)) line + count_by (λ q. q == v) line
    ≡ count_by (is_free p) line
count-free g p v line free =
    sum-add (λ q. cond (is_free (after g p v) q) 1 0) (λ q. cond (q == v) 1 0)
    (λ q. cond (is_free p q) 1 0) line (λ q _. count-free_point g p v q free)

pub count-none : (t : ℕ → Bool) (line : List ℕ)
    → ((q : ℕ) → Contains line q → t q ≡ false)
    → count_by t line ≡ 0
count-none t [] each = refl
count-none t (q ∷ line) each =
    let one_of : Bool → ℕ = λ b. cond b 1 0 in
    let one = ap one_of (each q (Contains-head q line)) in
    let rest = count-none t line (λ r c. each r (Contains-tail q r line c)) in
    omega (arith, one, rest, sum_by-cons (λ q. cond (t q) 1 0) q line)

count-some : (t : ℕ → Bool) (line : List ℕ) → list_any t line ≡ true → 1 ≤ count_by t line
count-some t line on =
    let found = member-from_any t line on in
    let one_of : Bool → ℕ = λ b. cond b 1 0 in
    let one = ap one_of found.2 in
    let le = member-le-sum (λ q. cond (t q) 1 0) line found.0 found.1 in
    omega (arith, one, le)

-- each point stands once in the line
abbrev pub StandOnce : List ℕ → Type 0
StandOnce line = (v : ℕ) → count_by (λ q. q == v) line ≤ 1

-- the lines of a game ascend, so that each point stands once in them
pub stand_once : (g : Game) (line : List ℕ) → Contains (lines_of g) line → StandOnce line
stand_once g line c v = count-ascending v line (line-fit g line c).ascending

free-on : (g : Game) (p : Position) (v : ℕ) (line : List ℕ)
    → StandOnce line
    → is_free p v ≡ true
    → is_on v line ≡ true
    → count_by (is_free (after g p v)) line + 1 ≡ count_by (is_free p) line
free-on g p v line once free on =
    let all = count-free g p v line free in
    let some = count-some (λ q. q == v) line on in
    let most = once v in
    omega (arith, all, some, most)

free-off : (g : Game) (p : Position) (v : ℕ) (line : List ℕ)
    → is_free p v ≡ true
    → is_on v line ≡ false
    → count_by (is_free (after g p v)) line ≡ count_by (is_free p) line
free-off g p v line free off =
    let all = count-free g p v line free in
    let none = count-none (λ q. q == v) line (λ q c. false-at (λ r. r == v) line q off c) in
    omega (arith, all, none)

-- ---- the weight of a line

multiply : (q k f h : ℕ)
    → f + 1 ≡ h
    → h ≤ k
    → (1 + q) ^ (k - h) + q * (1 + q) ^ (k - h) ≡ (1 + q) ^ (k - f)
multiply q k f h e le =
    let next : k - f ≡ suc (k - h) = omega arith in
    sym (ap (λ n. (1 + q) ^ n) next
    ∙ pow-suc (1 + q) (k - h)
    ∙ mul_comm ((1 + q) ^ (k - h)) (1 + q)
    ∙ one_more q ((1 + q) ^ (k - h)))
  where
    one_more : (q n : ℕ) → (1 + q) * n ≡ n + q * n
    one_more q n = omega (arith, add-mul 1 q n)

module _ (g : Game) (own : FinSet nat_cmp) (p : Position) (v : ℕ) (free : is_free p v ≡ true)
    (k : ℕ) (line : List ℕ) (short : length line ≤ k) (once : StandOnce line) where
  -- after a point that makes no line harmless, a line through it weighs 1 + q times as much
  weight-grown : (q : ℕ)
      → line_weight (1 + q) k own p line
      + q * (if is_on v line then line_weight (1 + q) k own p line else 0)
      ≡ line_weight (1 + q) k own (after g p v) line
  unfolding line_weight
  weight-grown q =
      let fits : count_by (is_free p) line ≤ k =
      omega (arith, count_by-le-length (is_free p) line, short) in
      elim (cases_Bool (is_touched own line)) [
        | inl touched ↦ rw touched (elim (cases_Bool (is_on v line)) [
          | inl on ↦ rw on (omega arith)
          | inr off ↦ rw off (omega arith)
        ])
        | inr clear ↦ rw clear (elim (cases_Bool (is_on v line)) [
          | inl on ↦ rw on (multiply q k _ _ (free-on g p v line once free on) fits)
          | inr off ↦ rw (off, free-off g p v line free off) (omega arith)
        ])
      ]

  touched-more : is_touched (insert own v) line ≡ (is_on v line || is_touched own line)
  touched-more = inserted line
    where
      swap_or : (a b c d : Bool) → ((a || b) || (c || d)) ≡ ((a || c) || (b || d))
      swap_or true b c d = refl
      swap_or false true true d = refl
      swap_or false true false d = refl
      swap_or false false c d = refl

      inserted : (ls : List ℕ) → is_touched (insert own v) ls ≡ (is_on v ls || is_touched own ls)
      inserted [] = refl
      inserted (q ∷ ls) = ap₂ (λ (a b : Bool). a || b) (in_insert own v q) (inserted ls)
          ∙ swap_or (eqb q v) (contains own q) (is_on v ls) (is_touched own ls)

  -- after a point that makes its lines harmless they weigh nothing
  weight-taken : (base : ℕ)
      → line_weight base k (insert own v) (after g p v) line
      + (if is_on v line then line_weight base k own p line else 0) ≡ line_weight base k own p line
  unfolding line_weight
  weight-taken base =
      rw touched-more (elim (cases_Bool (is_touched own line)) [
        | inl touched ↦ rw touched (elim (cases_Bool (is_on v line)) [
          | inl on ↦ rw on refl
          | inr off ↦ rw off refl
        ])
        | inr clear ↦ rw clear (elim (cases_Bool (is_on v line)) [
          | inl on ↦ rw on (omega arith)
          | inr off ↦ rw (off, free-off g p v line free off) (omega arith)
        ])
      ])

-- ---- the weights of all lines

module _ (g : Game) (once : (line : List ℕ) → Contains (lines_of g) line → StandOnce line) where
  -- a point that makes no line harmless adds q times its weight
  pub total-grown : (q : ℕ) (own : FinSet nat_cmp) (p : Position) (v : ℕ)
      → is_free p v ≡ true
      → total_weight (1 + q) g own p + q * point_weight (1 + q) g own p v
      ≡ total_weight (1 + q) g own (after g p v)
  unfolding total_weight point_weight
  total-grown q own p v free =
      let k = greatest_length (lines_of g) in
      let scaled = sum-times q
      (λ line. if is_on v line then line_weight (1 + q) k own p line else 0) (lines_of g) in
      let sum = sum-add (line_weight (1 + q) k own p)
      (λ line. q * (if is_on v line then line_weight (1 + q) k own p line else 0))
      (line_weight (1 + q) k own (after g p v)) (lines_of g) (λ line c. weight-grown g own p v free
      k line (length-le-greatest (lines_of g) line c) (once line c) q) in
      ap (λ n. sum_by (line_weight (1 + q) k own p) (lines_of g) + n) (sym scaled) ∙ sum

  -- the weights of points don't fall by such a point
  pub weight-rises : (q : ℕ) (own : FinSet nat_cmp) (p : Position) (v u : ℕ)
      → is_free p v ≡ true
      → point_weight (1 + q) g own p u ≤ point_weight (1 + q) g own (after g p v) u
  unfolding point_weight
  weight-rises q own p v u free = sum-le _ _ (lines_of g) (λ line c.
      let same = weight-grown g own p v free (greatest_length (lines_of g)) line
      (length-le-greatest (lines_of g) line c) (once line c) q in
      elim (cases_Bool (is_on u line)) [
        | inl on ↦ rw on (omega (arith, same))
        | inr off ↦ rw off (omega arith)
      ])

  -- a point that makes its lines harmless takes their weights away
  pub total-taken : (base : ℕ) (own : FinSet nat_cmp) (p : Position) (v : ℕ)
      → is_free p v ≡ true
      → total_weight base g (insert own v) (after g p v) + point_weight base g own p v
      ≡ total_weight base g own p
  unfolding total_weight point_weight
  total-taken base own p v free = sum-add _ _ _ (lines_of g)
      (λ line c. weight-taken g own p v free (greatest_length (lines_of g)) line
      (length-le-greatest (lines_of g) line c) (once line c) base)

  -- the weights of points don't rise by it
  pub weight-falls : (base : ℕ) (own : FinSet nat_cmp) (p : Position) (v u : ℕ)
      → is_free p v ≡ true
      → point_weight base g (insert own v) (after g p v) u ≤ point_weight base g own p u
  unfolding point_weight
  weight-falls base own p v u free = sum-le _ _ (lines_of g) (λ line c.
      let same = weight-taken g own p v free (greatest_length (lines_of g)) line
      (length-le-greatest (lines_of g) line c) (once line c) base in
      elim (cases_Bool (is_on u line)) [
        | inl on ↦ rw on (omega (arith, same))
        | inr off ↦ rw off (omega arith)
      ])

-- a line that the other side has filled weighs as much as the limit
pub unfilled-below : (base : ℕ) (g : Game) (side : Side) (p : Position)
    → ShareNone p.x p.y
    → total_weight base g (points_of p side) p < full_weight base g
    → has_filled g p (other side) ≡ false
unfolding total_weight full_weight line_weight
unfilled-below base g side p d below = list_any-none (is_filled (points_of p (other side)))
    (lines_of g) (λ line c. elim (cases_Bool (is_filled (points_of p (other side)) line)) [
      | inl filled ↦
          let k = greatest_length (lines_of g) in
          let untouched = list_any-none (contains (points_of p side)) line (λ v on. apart p side v d
          (true-at (contains (points_of p (other side))) line v filled on)) in
          let taken = count-none (is_free p) line (λ v on. elim (cases_Bool (is_free p v)) [
            | inl free ↦ absurd (false≢true (sym (free-of p (other side) v free)
                ∙ true-at (contains (points_of p (other side))) line v filled on))
            | inr off ↦ off
          ]) in
          let whole = member-le-sum (line_weight base k (points_of p side) p) (lines_of g) line c in
          let heavy : line_weight base k (points_of p side) p line ≡ base ^ k =
          (let whole_power : k - 0 ≡ k = omega arith in
          rw (untouched, taken) (ap (λ n. base ^ n) whole_power)) in
          absurd (omega (arith, whole, heavy, below))
      | inr off ↦ off
    ])
