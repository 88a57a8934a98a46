-- Tests of lines that lack one point, and of threat lines.
use Rattle.std.specs.Prelude.{IfSome, IfNone, Option, Some, None}
use Rattle.std.proofs.Common.{◌≡◌, ℕ, zero, suc, ◌+◌, ◌<◌, ◌≤◌, Bool, true, false, cond, ◌||◌, ◌==◌}
use Rattle.std.proofs.Common.{List, [], ◌∷◌, length, get_or, take, refl, sym, ap, ◌∙◌, subst, inl}
use Rattle.std.proofs.Common.{inr, arith, eqb-true, eq-eqb, take_all}
use Rattle.pg_check.proofs.Common.{is_some, cases_Bool, and_parts, and_from, or_cases, or_left}
use Rattle.pg_check.proofs.Common.{or_right, false≢true, Contains, count_by, list_any, list_all}
use Rattle.pg_check.proofs.Common.{FinSet, contains, insert, nat_cmp, Side, Game, Position, is_free}
use Rattle.pg_check.proofs.Common.{points_of, lines_of, is_filled, has_filled, is_on, is_near}
use Rattle.pg_check.proofs.Common.{threatens, IsAttack, true-at, false-at, list_any-none}
use Rattle.pg_check.proofs.Common.{list_any-one, member-from_any, free-of, near-from, near-to}
use Rattle.pg_check.proofs.Common.{near-range, filled-with, filled-without, on-or_filled}
use Rattle.std.proofs.lemmas.List.Folds.{list_any_more, list_all_more, list_any_kept}
use Rattle.std.proofs.lemmas.List.Sums.{count_by_more_yes, sum_by-take-le, get_or-le-sum_by}
use Rattle.std.specs.List.Sorted.{IsStrictlyIncreasing}
use Rattle.pg_base.proofs.LineLemmas.{count-ascending}
use Rattle.pg_check.specs.Lacked.{filled_but, IsLackedSoFar}

-- ---- the one point of a line that isn't in a set

some-counted : (t : ℕ → Bool) (line : List ℕ) → list_any t line ≡ true → 1 ≤ count_by t line
some-counted t line on =
    let found = member-from_any t line on in
    let one_of : Bool → ℕ = λ b. cond b 1 0 in
    let at : one_of (t found.0) ≡ 1 = ap one_of found.2 in
    let le : one_of (t found.0) ≤ count_by t line = subst (λ q. one_of (t q) ≤ count_by t line)
    found.1.2 (get_or-le-sum_by (λ q. one_of (t q)) line found.1.0 found.0 found.1.1) in
    omega (arith, at, le)

-- a point of an ascending line stands at one place
stands_once : (line : List ℕ) (i u : ℕ)
    → IsStrictlyIncreasing line
    → i < length line
    → get_or line i 0 ≡ u
    → is_on u (take i line) ≡ true
    → ⊥
stands_once line i u ascending within at on =
    let most = count-ascending u line ascending in
    let some = some-counted (λ q. q == u) (take i line) on in
    let more = count_by_more_yes (λ q. q == u) line i 0 within (eq-eqb _ _ at) in
    let part = sum_by-take-le (λ q. cond (q == u) 1 0) line (i + 1) in
    omega (arith, most, some, more, part)

module _ (s : FinSet nat_cmp) (line : List ℕ) (i v : ℕ) (within : i < length line)
    (at : v ≡ get_or line i 0) where
  all-more : (t : ℕ → Bool)
      → list_all t (take i line) ≡ true
      → t v ≡ true
      → list_all t (take (i + 1) line) ≡ true
  all-more t before here =
      list_all_more t line i 0 within ∙ and_from _ _ before (ap t (sym at) ∙ here)

  on-here : is_on v (take (i + 1) line) ≡ true
  on-here = list_any_more (λ q. q == v) line i 0 within ∙ or_right _ _ (eq-eqb _ _ (sym at))

  -- a point of the set changes nothing
  pub lacked-own : (lacked : Option ℕ)
      → contains s v ≡ true
      → IsLackedSoFar s (take i line) lacked
      → IsLackedSoFar s (take (i + 1) line) lacked
  lacked-own None own h = all-more (contains s) h own
  lacked-own (Some u) own h = (
    list_any_kept (λ q. q == u) line i h.0,
    h.1,
    all-more (λ q. q == u || contains s q) h.2 (or_right (v == u) _ own),
  )

  -- the first other point is the one
  pub lacked-first : (lacked : Option ℕ)
      → is_some lacked ≡ false
      → contains s v ≡ false
      → IsLackedSoFar s (take i line) lacked
      → IsLackedSoFar s (take (i + 1) line) (Some v)
  lacked-first (Some u) none off h = absurd (false≢true (sym none))
  lacked-first None none off h = (
    on-here,
    off,
    all-more (λ q. q == v || contains s q) (weaker (take i line) h)
        (or_left (v == v) _ (eq-eqb v v refl)),
  )
    where
      weaker : (qs : List ℕ) → list_all (contains s) qs ≡ true → filled_but s v qs ≡ true
      weaker [] h = refl
      weaker (q ∷ qs) h =
          let parts = and_parts (contains s q) _ h in
          and_from _ _ (or_right (q == v) _ parts.0) (weaker qs parts.1)

  -- after a second one there is none alone
  pub lacked-second : (lacked : Option ℕ)
      → is_some lacked ≡ true
      → contains s v ≡ false
      → IsStrictlyIncreasing line
      → IsLackedSoFar s (take i line) lacked
      → (w : ℕ) → is_on w line ≡ true
      → contains s w ≡ false
      → filled_but s w line ≡ true
      → ⊥
  lacked-second None some off ascending h w on out rest = false≢true some
  lacked-second (Some x) some off ascending h w on out rest =
      let first = member-from_any (λ q. q == x) (take i line) h.0 in
      let x_on = list_any-whole i x h.0 in
      let one : x ≡ w = sole x x_on h.1 in
      let two : v ≡ w = sole v (list_any-whole (i + 1) v on-here) off in
      stands_once line i x ascending within (sym at ∙ two ∙ sym one) h.0
    where
      list_any-whole : (k y : ℕ) → is_on y (take k line) ≡ true → is_on y line ≡ true
      list_any-whole k y on = whole k line y on
        where
          whole : (k : ℕ) (qs : List ℕ) (y : ℕ) → is_on y (take k qs) ≡ true → is_on y qs ≡ true
          whole zero qs y on = absurd (false≢true on)
          whole (suc k) [] y on = on
          whole (suc k) (q ∷ qs) y on = elim (or_cases (q == y) _ on) [
            | inl here ↦ or_left (q == y) _ here
            | inr later ↦ or_right (q == y) _ (whole k qs y later)
          ]

      sole : (y : ℕ) → is_on y line ≡ true → contains s y ≡ false → y ≡ w
      sole y y_on y_out =
          let found = member-from_any (λ q. q == y) line y_on in
          let same = eqb-true found.0 y found.2 in
          let pass = true-at (λ q. q == w || contains s q) line found.0 rest found.1 in
          elim (or_cases (found.0 == w) _ pass) [
            | inl here ↦ sym same ∙ eqb-true found.0 w here
            | inr own ↦ absurd (false≢true (sym y_out ∙ ap (contains s) (sym same) ∙ own))
          ]

-- what has been seen is the whole line
pub lacked-none : (s : FinSet nat_cmp) (line : List ℕ) (lacked : Option ℕ) (n : ℕ)
    → length line ≤ n
    → IsLackedSoFar s (take n line) lacked
    → IfNone lacked
    ((u : ℕ) → is_on u line ≡ true → contains s u ≡ false → filled_but s u line ≡ true → ⊥)
lacked-none s line (Some x) n end h = tt
lacked-none s line None n end h = λ u on out rest.
    let whole = ap (list_all (contains s)) (sym (take_all n line end)) ∙ h in
    let found = member-from_any (λ q. q == u) line on in
    false≢true (sym out
    ∙ ap (contains s) (sym (eqb-true found.0 u found.2))
    ∙ true-at (contains s) line found.0 whole found.1)

pub lacked-one : (s : FinSet nat_cmp) (line : List ℕ) (lacked : Option ℕ) (n : ℕ)
    → length line ≤ n
    → IsLackedSoFar s (take n line) lacked
    → IfSome lacked
    (λ u. (is_on u line ≡ true) × (contains s u ≡ false) × (filled_but s u line ≡ true))
lacked-one s line None n end h = tt
lacked-one s line (Some x) n end h = subst
    (λ (qs : List ℕ). (is_on x qs ≡ true) × (contains s x ≡ false) × (filled_but s x qs ≡ true))
    (take_all n line end) h

-- ---- lines that lack one free point

module _ (p : Position) (side : Side) (line : List ℕ) where
  near-sole : (u v : ℕ)
      → is_on u line ≡ true
      → contains (points_of p side) u ≡ false
      → is_near p side line v ≡ true
      → u ≡ v
  near-sole u v on out near =
      let one = and_parts (is_free p v) _ near in
      let two = and_parts (is_on v line) _ one.1 in
      let found = member-from_any (λ q. q == u) line on in
      let same = eqb-true found.0 u found.2 in
      let pass =
      true-at (λ q. q == v || contains (points_of p side) q) line found.0 two.1 found.1 in
      elim (or_cases (found.0 == v) _ pass) [
        | inl here ↦ sym same ∙ eqb-true found.0 v here
        | inr own ↦
            absurd (false≢true (sym out ∙ ap (contains (points_of p side)) (sym same) ∙ own))
      ]

  pub nearly-one : (u : ℕ)
      → is_on u line ≡ true
      → contains (points_of p side) u ≡ false
      → filled_but (points_of p side) u line ≡ true
      → is_free p u ≡ list_any (is_near p side line) line
  nearly-one u on out rest = elim (cases_Bool (is_free p u)) [
    | inl free ↦
        let found = member-from_any (λ q. q == u) line on in
        free
        ∙ sym (list_any-one (is_near p side line) line u
        (subst (λ (v : ℕ). Contains line v) (eqb-true found.0 u found.2) found.1)
        (and_from (is_free p u) _ free (and_from (is_on u line) _ on rest)))
    | inr taken ↦ taken
        ∙ sym (list_any-none (is_near p side line) line
        (λ v c. elim (cases_Bool (is_near p side line v)) [
          | inl near ↦ absurd (false≢true (sym taken
              ∙ ap (is_free p) (near-sole u v on out near)
              ∙ (and_parts (is_free p v) _ near).0))
          | inr off ↦ off
        ]))
  ]

  pub nearly-none : ((u : ℕ) → is_on u line ≡ true
      → contains (points_of p side) u ≡ false
      → filled_but (points_of p side) u line ≡ true
      → ⊥)
      → false ≡ list_any (is_near p side line) line
  nearly-none none = elim (cases_Bool (list_any (is_near p side line) line)) [
    | inl some ↦
        let found = member-from_any (is_near p side line) line some in
        let one = and_parts (is_free p found.0) _ found.2 in
        let two = and_parts (is_on found.0 line) _ one.1 in
        absurd (none found.0 two.0 (free-of p side found.0 one.0) two.1)
    | inr off ↦ sym off
  ]

-- ---- attacks

-- whether the side would fill some line with the point
abbrev pub would_fill : Game → Position → Side → ℕ → Bool
would_fill g p side u = list_any (is_filled (insert (points_of p side) u)) (lines_of g)

-- who fills no line lacks one point of each line that one more free point fills
pub fills-threatens : (g : Game) (p : Position) (side : Side) (u : ℕ)
    → has_filled g p side ≡ false
    → is_free p u ≡ true
    → would_fill g p side u ≡ true
    → threatens g p side u ≡ true
fills-threatens g p side u none free h =
    let found = member-from_any (is_filled (insert (points_of p side) u)) (lines_of g) h in
    let rest = filled-without (points_of p side) u found.0 found.2 in
    near-to g p side u (record {
      line = found.0;
      listed = found.1;
      free = free;
      on = on-or_filled (points_of p side) u found.0 rest
          (false-at (is_filled (points_of p side)) (lines_of g) found.0 none found.1);
      rest = rest;
    })

pub threatens-fills : (g : Game) (p : Position) (side : Side) (u : ℕ)
    → threatens g p side u ≡ true
    → IsAttack g p u × (would_fill g p side u ≡ true)
threatens-fills g p side u h =
    let n = near-from g p side u h in (
      record { range = near-range g n.line u n.listed n.on; free = n.free },
      list_any-one (is_filled (insert (points_of p side) u)) (lines_of g) n.line n.listed
          (filled-with (points_of p side) u n.line n.rest),
    )

-- what the code answers: nothing but a free point is lacked
pub threatens-off : (g : Game) (p : Position) (side : Side) (u : ℕ)
    → (IsAttack g p u → ⊥)
    → false ≡ threatens g p side u
threatens-off g p side u off = elim (cases_Bool (threatens g p side u)) [
  | inl on ↦ absurd (off (threatens-fills g p side u on).0)
  | inr none ↦ sym none
]

pub threatens-is : (g : Game) (p : Position) (side : Side) (u : ℕ)
    → has_filled g p side ≡ false
    → IsAttack g p u
    → would_fill g p side u ≡ threatens g p side u
threatens-is g p side u none at = elim (cases_Bool (would_fill g p side u)) [
  | inl on ↦ on ∙ sym (fills-threatens g p side u none at.free on)
  | inr off ↦ elim (cases_Bool (threatens g p side u)) [
    | inl on ↦ absurd (false≢true (sym off ∙ (threatens-fills g p side u on).1))
    | inr not_on ↦ off ∙ sym not_on
  ]
]
