-- A private pair for a line, found point by point.
use Rattle.std.proofs.Common.{◌≡◌, ℕ, zero, suc, ◌<◌, ◌≤◌, Bool, true, false, not, ◌&&◌, ◌||◌}
use Rattle.std.proofs.Common.{nat_lt, eqb, List, [], ◌∷◌, length, take, get_or, refl, sym, ap, ap₂}
use Rattle.std.proofs.Common.{◌∙◌, inl, inr, arith, take_all, drop, ◌-◌, All}
use Rattle.pg_plain.proofs.Common.{cases_Bool, or_right, list_any, filter, Contains, FinSet}
use Rattle.pg_plain.proofs.Common.{nat_cmp, All-contains, All-filter, All-contains_itself, minus}
use Rattle.pg_plain.proofs.Common.{is_touched, has_private_pairs, Contains-head, Contains-tail}
use Rattle.pg_plain.specs.PairSearch.{untouched, have_pairs, is_lesser}
use Rattle.pg_game.proofs.Lowest.{any_both}

-- no point before the place passes both tests
abbrev pub PassesNone : (ℕ → Bool) → (ℕ → Bool) → List ℕ → ℕ → Type 0
PassesNone t f line i = list_any (λ x. f x && t x) (take i line) ≡ false

pub passes-none_all : (t f : ℕ → Bool) (line : List ℕ) (i : ℕ)
    → length line ≤ i
    → PassesNone t f line i
    → list_any t (filter f line) ≡ false
passes-none_all t f line i h none =
    any_both t f line ∙ ap (list_any (λ x. f x && t x)) (sym (take_all i line h)) ∙ none

-- a point at a place of the line passes both
pub passes-one : (t f : ℕ → Bool) (line : List ℕ) (i : ℕ)
    → i < length line
    → f (get_or line i 0) ≡ true
    → t (get_or line i 0) ≡ true
    → list_any t (filter f line) ≡ true
passes-one t f line i lt free pass = any_both t f line ∙ at line i lt free pass
  where
    at : (line : List ℕ) (i : ℕ)
        → i < length line
        → f (get_or line i 0) ≡ true
        → t (get_or line i 0) ≡ true
        → list_any (λ x. f x && t x) line ≡ true
    at [] i lt free pass = absurd (omega (arith, lt))
    at (q ∷ line) zero lt free pass = rw (free, pass) refl
    at (q ∷ line) (suc i) lt free pass =
        or_right (f q && t q) _ (at line i (omega (arith, lt)) free pass)

-- ---- only the points of the lines matter

filter-agree : (t u : ℕ → Bool) (line : List ℕ)
    → ((v : ℕ) → Contains line v → t v ≡ u v)
    → filter t line ≡ filter u line
filter-agree t u [] agree = refl
filter-agree t u (q ∷ line) agree =
    let here = agree q (Contains-head q line) in
    let rest = filter-agree t u line (λ v c. agree v (Contains-tail q v line c)) in
    elim (cases_Bool (u q)) [
      | inl on ↦ rw (here ∙ on, on) (ap (λ (qs : List ℕ). q ∷ qs) rest)
      | inr off ↦ rw (here ∙ off, off) rest
    ]

any-agree : (t u : ℕ → Bool) (line : List ℕ)
    → ((v : ℕ) → t v ≡ u v)
    → list_any t line ≡ list_any u line
any-agree t u [] agree = refl
any-agree t u (q ∷ line) agree = ap₂ (λ a b. a || b) (agree q) (any-agree t u line agree)

minus-agree : (t u : ℕ → Bool) (a b v : ℕ)
    → t v ≡ u v
    → minus (minus t a) b v ≡ minus (minus u a) b v
unfolding minus
minus-agree t u a b v agree = ap (λ c. (c && not (eqb a v)) && not (eqb b v)) agree

pub private-agree : (lines : List (List ℕ)) (t u : ℕ → Bool)
    → ((line : List ℕ) → Contains lines line → (v : ℕ) → Contains line v → t v ≡ u v)
    → has_private_pairs lines t ≡ has_private_pairs lines u
unfolding has_private_pairs
private-agree [] t u agree = refl
private-agree (line ∷ lines) t u agree =
    let same = filter-agree t u line (agree line (Contains-head line lines)) in
    let rest : (a b : ℕ) → (nat_lt a b && has_private_pairs lines (minus (minus t a) b))
    ≡ (nat_lt a b && has_private_pairs lines (minus (minus u a) b)) =
    λ a b. ap (λ c. nat_lt a b && c)
    (private-agree lines (minus (minus t a) b) (minus (minus u a) b)
    (λ l c v on. minus-agree t u a b v (agree l (Contains-tail line l lines c) v on))) in
    rw same (any-agree _ _ (filter u line) (λ a. any-agree _ _ (filter u line) (λ b. rest a b)))

-- ---- line after line

-- without lines there is nothing to pair
pub pairs-none : (own : FinSet nat_cmp) (lines : List (List ℕ)) (free : ℕ → Bool)
    → length lines < 1
    → have_pairs own lines free ≡ true
unfolding has_private_pairs
pairs-none own [] free none = refl
pairs-none own (line ∷ lines) free none = absurd (omega arith)

one_fewer : (line : List ℕ) (lines : List (List ℕ))
    → take (length (line ∷ lines) - 1) (drop 1 (line ∷ lines)) ≡ lines
one_fewer line lines =
    let same : length (line ∷ lines) - 1 ≡ length lines = omega arith in
    ap (λ n. take n lines) same ∙ take_all (length lines) lines (omega arith)

-- the first line, which is untouched, has a pair so that the others have pairs of what is left
pub pairs-first : (own : FinSet nat_cmp) (lines : List (List ℕ)) (line : List ℕ) (free : ℕ → Bool)
    (b : Bool)
    → 1 ≤ length lines
    → line ≡ get_or lines 0 line
    → is_touched own line ≡ false
    → b
    ≡ list_any (is_lesser own (take (length lines - 1) (drop 1 lines)) free line) (filter free line)
    → b ≡ have_pairs own lines free
unfolding has_private_pairs
pairs-first own [] line free b some is off found = absurd (omega arith)
pairs-first own (l ∷ ls) line free b some is off found =
    let rest = one_fewer l ls in
    let clear : is_touched own l ≡ false = ap (is_touched own) (sym is) ∙ off in
    let here = found
    ∙ ap (λ (others : List (List ℕ)). list_any (is_lesser own others free line) (filter free line))
    rest
    ∙ ap (λ (x : List ℕ). list_any (is_lesser own ls free x) (filter free x)) is in
    rw clear here

-- only the points below a limit matter where all points of the lines are below it
pub pairs-within : (own : FinSet nat_cmp) (lines : List (List ℕ)) (t u : ℕ → Bool) (n : ℕ)
    → All (All (λ v. v < n)) lines
    → ((v : ℕ) → v < n → t v ≡ u v)
    → have_pairs own lines t ≡ have_pairs own lines u
pairs-within own lines t u n small agree = private-agree (untouched own lines) t u (λ line c v on.
    let member = filter-member (λ l. not (is_touched own l)) lines line c in
    agree v
    (All-contains (λ q. q < n) line v (All-contains (All (λ q. q < n)) lines line small member) on))
  where
    filter-member : (f : List ℕ → Bool) (xs : List (List ℕ)) (x : List ℕ)
        → Contains (filter f xs) x
        → Contains xs x
    filter-member f xs x c = All-contains (Contains xs) (filter f xs) x
        (All-filter f (Contains xs) xs (All-contains_itself xs)) c
