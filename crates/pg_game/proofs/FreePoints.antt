-- The free points, before and after a move.
use Rattle.std.proofs.Common.{◌≡◌, ℕ, zero, suc, ◌+◌, ◌<◌, ◌≤◌, Bool, true, false, not, ◌&&◌, ◌||◌}
use Rattle.std.proofs.Common.{List, [], ◌∷◌, length, eqb, refl, sym, ap, ◌∙◌, inl, inr, arith}
use Rattle.std.proofs.Common.{eq-eqb, ne_eqb}
use Rattle.pg_game.proofs.Common.{and_parts, cases_Bool, cases_eq, and_from, false≢true, or_left}
use Rattle.pg_game.proofs.Common.{or_right, or_cases, filter_agree, filter, range_with_len}
use Rattle.pg_game.proofs.Common.{Contains, list_any, list_all, FinSet, contains, nat_cmp, Side, X}
use Rattle.pg_game.proofs.Common.{Y, in_insert}
use Rattle.pg_game.specs.declared.position.Position.{Position}
use Rattle.pg_game.specs.Position.{is_free, x_after, y_after}
use Rattle.std.proofs.lemmas.List.FromFn.{length-range_with_len, get_or-range_with_len}
use Rattle.pg_game.proofs.Members.{Contains-head, Contains-tail}
use Rattle.pg_game.specs.declared.game.Game.{Game}
use Rattle.pg_game.specs.Game.{after, free_points, point_count, is_empty, is_full}

-- ---- a position after a move

free_after_x : (e a b : Bool) → (not (e || a) && not b) ≡ (not e && (not a && not b))
free_after_x true a b = refl
free_after_x false a b = refl

free_after_y : (e a b : Bool) → (not a && not (e || b)) ≡ (not e && (not a && not b))
free_after_y true true b = refl
free_after_y true false b = refl
free_after_y false a b = refl

-- the same at each side to move
pub free_at : (x y : FinSet nat_cmp) (turn : Side) (v q : ℕ)
    → (not (contains (x_after turn x v) q) && not (contains (y_after turn y v) q))
    ≡ (not (eqb q v) && (not (contains x q) && not (contains y q)))
free_at x y X v q = ap (λ b. not b && not (contains y q)) (in_insert x v q)
    ∙ free_after_x (eqb q v) (contains x q) (contains y q)
free_at x y Y v q = ap (λ b. not (contains x q) && not b) (in_insert y v q)
    ∙ free_after_y (eqb q v) (contains x q) (contains y q)

-- a move takes its point and leaves the others
pub is_free-after : (g : Game) (p : Position) (v q : ℕ)
    → is_free (after g p v) q ≡ (not (eqb q v) && is_free p q)
is_free-after g p v q = free_at p.x p.y p.turn v q

-- ---- one number fewer passes

keeps_out : (p : ℕ → Bool) (v a n : ℕ)
    → v < a
    → length (filter (λ q. not (eqb q v) && p q) (range_with_len a n))
    ≡ length (filter p (range_with_len a n))
keeps_out p v a zero h = refl
keeps_out p v a (suc n) h =
    let ne = ne_eqb a v (λ e. omega arith) in
    let rest = keeps_out p v (a + 1) n (omega arith) in
    rw ne (elim (cases_Bool (p a)) [ inl on ↦ rw on (ap suc rest) | inr off ↦ rw off rest ])

pub one_fewer : (p : ℕ → Bool) (v a n : ℕ)
    → p v ≡ true
    → a ≤ v
    → v < a + n
    → length (filter (λ q. not (eqb q v) && p q) (range_with_len a n)) + 1
    ≡ length (filter p (range_with_len a n))
one_fewer p v a zero on low high = absurd (omega arith)
one_fewer p v a (suc n) on low high =
    elim (cases_eq v a) [
      | inl e ↦
          let here : p a ≡ true = ap p (sym e) ∙ on in
          let is = eq-eqb a v (sym e) in
          let rest = keeps_out p v (a + 1) n (omega arith) in
          rw (is, here) (omega (arith, rest))
      | inr ne ↦
          let apart = ne_eqb a v (λ e. ne (sym e)) in
          let rest = one_fewer p v (a + 1) n on (omega arith) (omega arith) in
          rw apart (elim (cases_Bool (p a)) [
            | inl here ↦ rw here (omega (arith, rest))
            | inr off ↦ rw off rest
          ])
    ]

-- a move of a free point leaves one fewer
pub length-free_points-after : (g : Game) (p : Position) (v : ℕ)
    → v < point_count g
    → is_free p v ≡ true
    → length (free_points g (after g p v)) + 1 ≡ length (free_points g p)
unfolding free_points
length-free_points-after g p v within free = ap (λ qs. length qs + 1)
    (filter_agree (is_free (after g p v)) (λ q. not (eqb q v) && is_free p q) (is_free-after g p v)
    (range_with_len 0 (point_count g)))
    ∙ one_fewer (is_free p) v 0 (point_count g) free (omega arith) (omega arith)

-- ---- members of the list

pub any-filter : (p t : ℕ → Bool) (v a n : ℕ)
    → a ≤ v
    → v < a + n
    → p v ≡ true
    → t v ≡ true
    → list_any t (filter p (range_with_len a n)) ≡ true
any-filter p t v a zero low high on pass = absurd (omega arith)
any-filter p t v a (suc n) low high on pass =
    elim (cases_eq v a) [
      | inl e ↦
          let here : p a ≡ true = ap p (sym e) ∙ on in
          rw here (or_left (t a) _ (ap t (sym e) ∙ pass))
      | inr ne ↦
          let rest = any-filter p t v (a + 1) n (omega arith) (omega arith) on pass in
          elim (cases_Bool (p a)) [
            | inl here ↦ rw here (or_right (t a) _ rest)
            | inr off ↦ rw off rest
          ]
    ]

pub all-filter : (p t : ℕ → Bool) (a n : ℕ)
    → ((v : ℕ) → a ≤ v → v < a + n → p v ≡ true → t v ≡ true)
    → list_all t (filter p (range_with_len a n)) ≡ true
all-filter p t a zero each = refl
all-filter p t a (suc n) each =
    let rest = all-filter p t (a + 1) n (λ v low high. each v (omega arith) (omega arith)) in
    elim (cases_Bool (p a)) [
      | inl here ↦ rw here (and_from (t a) _ (each a (omega arith) (omega arith) here) rest)
      | inr off ↦ rw off rest
    ]

pub any-filter-from : (p t : ℕ → Bool) (a n : ℕ)
    → list_any t (filter p (range_with_len a n)) ≡ true
    → (v : ℕ) × (a ≤ v) × (v < a + n) × (p v ≡ true) × (t v ≡ true)
any-filter-from p t a zero h = absurd (false≢true h)
any-filter-from p t a (suc n) h = elim (cases_Bool (p a)) [
  | inl here ↦ elim (or_cases (t a) _ (rw here at h)) [
    | inl pass ↦ (a, omega arith, omega arith, here, pass)
    | inr later ↦
        let w = any-filter-from p t (a + 1) n later in
        (w.0, omega (arith, w.1), omega (arith, w.2), w.3, w.4)
  ]
  | inr off ↦
      let w = any-filter-from p t (a + 1) n (rw off at h) in
      (w.0, omega (arith, w.1), omega (arith, w.2), w.3, w.4)
]

pub all-filter-from : (p t : ℕ → Bool) (a n : ℕ)
    → list_all t (filter p (range_with_len a n)) ≡ true
    → (v : ℕ) → a ≤ v
    → v < a + n
    → p v ≡ true
    → t v ≡ true
all-filter-from p t a zero h v low high on = absurd (omega arith)
all-filter-from p t a (suc n) h v low high on = elim (cases_Bool (p a)) [
  | inl here ↦
      let parts = and_parts (t a) _ (rw here at h) in
      elim (cases_eq v a) [
        | inl e ↦ ap t e ∙ parts.0
        | inr ne ↦ all-filter-from p t (a + 1) n parts.1 v (omega arith) (omega arith) on
      ]
  | inr off ↦
      elim (cases_eq v a) [
        | inl e ↦ absurd (false≢true (sym off ∙ ap p (sym e) ∙ on))
        | inr ne ↦ all-filter-from p t (a + 1) n (rw off at h) v (omega arith) (omega arith) on
      ]
]

-- some free point passes
pub any-free_points : (g : Game) (p : Position) (t : ℕ → Bool) (v : ℕ)
    → v < point_count g
    → is_free p v ≡ true
    → t v ≡ true
    → list_any t (free_points g p) ≡ true
unfolding free_points
any-free_points g p t v within free pass =
    any-filter (is_free p) t v 0 (point_count g) (omega arith) (omega arith) free pass

-- every free point passes
pub all-free_points : (g : Game) (p : Position) (t : ℕ → Bool)
    → ((v : ℕ) → v < point_count g → is_free p v ≡ true → t v ≡ true)
    → list_all t (free_points g p) ≡ true
unfolding free_points
all-free_points g p t each =
    all-filter (is_free p) t 0 (point_count g) (λ v _ high free. each v (omega arith) free)

-- where some free point passes, one does
pub any-free_points-from : (g : Game) (p : Position) (t : ℕ → Bool)
    → list_any t (free_points g p) ≡ true
    → (v : ℕ) × (v < point_count g) × (is_free p v ≡ true) × (t v ≡ true)
unfolding free_points
any-free_points-from g p t h =
    let w = any-filter-from (is_free p) t 0 (point_count g) h in
    (w.0, omega (arith, w.2), w.3, w.4)

-- ---- where nothing is free

-- a list that isn't empty has a free point
pub first_free : (g : Game) (p : Position)
    → is_empty (free_points g p) ≡ false
    → (v : ℕ) × (v < point_count g) × (is_free p v ≡ true)
unfolding free_points
first_free g p h = first (range_with_len 0 (point_count g)) (λ v c. below v c) h
  where
    first : (qs : List ℕ)
        → ((v : ℕ) → Contains qs v → v < point_count g)
        → is_empty (filter (is_free p) qs) ≡ false
        → (v : ℕ) × (v < point_count g) × (is_free p v ≡ true)
    first [] within h = absurd (false≢true (sym h))
    first (q ∷ qs) within h = elim (cases_Bool (is_free p q)) [
      | inl on ↦ (q, within q (Contains-head q qs), on)
      | inr off ↦ first qs (λ v c. within v (Contains-tail q v qs c)) (rw off at h)
    ]

    below : (v : ℕ) → Contains (range_with_len 0 (point_count g)) v → v < point_count g
    below v c =
        let len = length-range_with_len 0 (point_count g) in
        let at = get_or-range_with_len 0 (point_count g) c.0 v (omega (arith, c.1)) in
        omega (arith, c.1, c.2)

-- ---- whether no point is free

none-filter : (p : ℕ → Bool) (a n : ℕ)
    → ((v : ℕ) → a ≤ v → v < a + n → p v ≡ false)
    → filter p (range_with_len a n) ≡ []
none-filter p a zero each = refl
none-filter p a (suc n) each = rw (each a (omega arith) (omega arith))
    (none-filter p (a + 1) n (λ v low high. each v (omega arith) (omega arith)))

pub is_full-none : (g : Game) (p : Position)
    → ((v : ℕ) → v < point_count g → is_free p v ≡ false)
    → is_full g p ≡ true
unfolding free_points
is_full-none g p each =
    ap is_empty (none-filter (is_free p) 0 (point_count g) (λ v low high. each v (omega arith)))

pub is_full-one : (g : Game) (p : Position) (v : ℕ)
    → v < point_count g
    → is_free p v ≡ true
    → is_full g p ≡ false
is_full-one g p v within free =
    some (free_points g p) (any-free_points g p (is_free p) v within free free)
  where
    some : (qs : List ℕ) → list_any (is_free p) qs ≡ true → is_empty qs ≡ false
    some [] h = absurd (false≢true h)
    some (q ∷ qs) h = refl

-- where no point is free, none is
pub none-full : (g : Game) (p : Position)
    → is_full g p ≡ true
    → (v : ℕ) → v < point_count g
    → is_free p v ≡ false
none-full g p full v within = elim (cases_Bool (is_free p v)) [
  | inl free ↦ absurd (false≢true (sym (is_full-one g p v within free) ∙ full))
  | inr taken ↦ taken
]
