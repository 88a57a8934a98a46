-- Different edges between vertices on a circle have places that are apart.
use Rattle.std.proofs.Common.{◌≡◌, ◌∙◌, ℕ, zero, suc, ◌+◌, ◌*◌, ◌<◌, ◌≤◌, ◌⊎◌, Bool, true, false}
use Rattle.std.proofs.Common.{inl, inr}
use Rattle.std.proofs.Common.{sym, arith, refl, subst}
use Rattle.std.specs.Prelude.{nat_le, nat_lt, ◌&&◌, ◌||◌, ◌==◌}
use Rattle.std.specs.Int.{abs_diff}
use Rattle.pg_places.proofs.Common.{and_comm, and_parts, cases_Bool, cases_lt, nat_tests, or_cases}
use Rattle.pg_places.proofs.Common.{or_parts}
use Rattle.pg_places.proofs.Common.{Place}
unfoldable use Rattle.pg_places.specs.Places.{place_on_circle}
use Rattle.pg_places.specs.Places.{AreApart}
unfoldable use Rattle.pg_places.specs.Courses.{course_of}
use Rattle.pg_places.specs.Courses.{IsChord, chord_place, have_same_ends}

-- ---- numbers below a limit

unfoldable all_below : (ℕ → Bool) → ℕ → Bool
all_below test zero = true
all_below test (suc k) = test k && all_below test k

below_at : (test : ℕ → Bool) (n k : ℕ) → all_below test n ≡ true → k < n → test k ≡ true
unfolding all_below
below_at test zero k all lt = absurd (omega arith)
below_at test (suc n) k all lt =
    elim (cases_lt k n) [
      | inl below ↦ below_at test n k (and_parts (test n) (all_below test n) all).1 below
      | inr above ↦
          let last : n ≡ k = omega arith in
          subst (λ (j : ℕ). test j ≡ true) last (and_parts (test n) (all_below test n) all).0
    ]

-- a test of all edges from a vertex to a later one
abbrev all_chords : (ℕ → ℕ → Bool) → ℕ → Bool
all_chords test n = all_below (λ v. all_below (λ u. test u v) v) n

chord_at : (test : ℕ → ℕ → Bool) (n u v : ℕ)
    → all_chords test n ≡ true
    → u < v
    → v < n
    → test u v ≡ true
chord_at test n u v all lt within = below_at (λ u. test u v) v u
    (below_at (λ v. all_below (λ u. test u v) v) n v all within) lt

-- ---- edges between so many vertices

abbrev place : ℕ → ℕ → ℕ → Place
place n u v = chord_place n (u, v)

abbrev apart : ℕ → Place → Place → Bool
apart far a b = (nat_le (a.across + far) b.across || nat_le (b.across + far) a.across)
    || (nat_le (a.down + far) b.down || nat_le (b.down + far) a.down)

abbrev same_or_apart : ℕ → ℕ → ℕ → ℕ → ℕ → ℕ → Bool
same_or_apart far n u v s t = (u == s && v == t) || apart far (place n u v) (place n s t)

-- all edges between n vertices are so far apart
abbrev all_apart : ℕ → ℕ → Bool
all_apart far n = all_chords (λ u v. all_chords (same_or_apart far n u v) n) n

-- those between fewer vertices than the limit
abbrev AllApart : ℕ → ℕ → Type 0
AllApart far limit = all_below (all_apart far) limit ≡ true

eight_apart : AllApart 19 9
unfolding all_below place_on_circle course_of
eight_apart = refl

twenty_apart : AllApart 6 21
unfolding all_below place_on_circle course_of
twenty_apart = refl

is_apart : (far : ℕ) (a b : Place) → apart far a b ≡ true → AreApart far a b
is_apart far a b on =
    elim (or_cases (nat_le (a.across + far) b.across || nat_le (b.across + far) a.across)
    (nat_le (a.down + far) b.down || nat_le (b.down + far) a.down) on) [
      | inl across ↦ elim (or_cases (nat_le (a.across + far) b.across)
          (nat_le (b.across + far) a.across) across) [
            | inl left ↦ inl (inl (grind (arith, nat_tests)))
            | inr right ↦ inl (inr (grind (arith, nat_tests)))
          ]
      | inr down ↦ elim (or_cases (nat_le (a.down + far) b.down)
          (nat_le (b.down + far) a.down) down) [
            | inl above ↦ inr (inl (grind (arith, nat_tests)))
            | inr below ↦ inr (inr (grind (arith, nat_tests)))
          ]
    ]

ordered_apart : (far limit n u v s t : ℕ)
    → AllApart far limit
    → n < limit
    → u < v
    → v < n
    → s < t
    → t < n
    → (u == s && v == t) ≡ false
    → AreApart far (place n u v) (place n s t)
ordered_apart far limit n u v s t every few lt within less inside other =
    let all = below_at (all_apart far) limit n every few in
    let first = chord_at (λ u v. all_chords (same_or_apart far n u v) n) n u v all lt within in
    let second = chord_at (same_or_apart far n u v) n s t first less inside in
    is_apart far (place n u v) (place n s t) (rw other at second)

-- ---- ends in either order

swapped : (n u v : ℕ) → u < v → place n v u ≡ place n u v
unfolding course_of
swapped n u v lt =
    let one : (u == v) ≡ false = grind (arith, nat_tests) in
    let two : (v == u) ≡ false = grind (arith, nat_tests) in
    let less : nat_lt u v ≡ true = grind (arith, nat_tests) in
    let more : nat_lt v u ≡ false = grind (arith, nat_tests) in
    let same : abs_diff v u ≡ abs_diff u v = omega arith in
    elim (cases_Bool (nat_le (2 * abs_diff u v) n)) [
      | inl near ↦ rw (one, two, same, near, less, more) refl
      | inr far ↦ rw (one, two, same, far, less, more) refl
    ]

-- both ends in order, or in the other one
abbrev Ordered : ℕ → ℕ × ℕ → Type 0
Ordered n e = (e.0 < e.1) ⊎ (e.1 < e.0)

ordered : (n : ℕ) (e : ℕ × ℕ) → IsChord n e → Ordered n e
ordered n e chord =
    elim (cases_lt e.0 e.1) [
      | inl less ↦ inl less
      | inr more ↦ inr (let other = chord.2 in elim (cases_lt e.1 e.0) [
        | inl below ↦ below
        | inr above ↦ absurd (other (omega arith))
      ])
    ]

apart_by : (far limit n : ℕ) (a b : ℕ × ℕ)
    → AllApart far limit
    → n < limit
    → IsChord n a
    → IsChord n b
    → Ordered n a
    → Ordered n b
    → (a.0 == b.0 && a.1 == b.1) ≡ false
    → (a.0 == b.1 && a.1 == b.0) ≡ false
    → AreApart far (chord_place n a) (chord_place n b)
apart_by far limit n a b every few one two (inl la) (inl lb) same crossed =
    ordered_apart far limit n a.0 a.1 b.0 b.1 every few la one.1 lb two.1 same
apart_by far limit n a b every few one two (inl la) (inr lb) same crossed =
    subst (λ (p : Place). AreApart far (place n a.0 a.1) p) (sym (swapped n b.1 b.0 lb))
    (ordered_apart far limit n a.0 a.1 b.1 b.0 every few la one.1 lb two.0 crossed)
apart_by far limit n a b every few one two (inr la) (inl lb) same crossed =
    subst (λ (p : Place). AreApart far p (place n b.0 b.1)) (sym (swapped n a.1 a.0 la))
    (ordered_apart far limit n a.1 a.0 b.0 b.1 every few la one.0 lb two.1
    (and_comm (a.1 == b.0) (a.0 == b.1) ∙ crossed))
apart_by far limit n a b every few one two (inr la) (inr lb) same crossed =
    subst (λ (p : Place). AreApart far p (place n b.0 b.1)) (sym (swapped n a.1 a.0 la))
    (subst (λ (p : Place). AreApart far (place n a.1 a.0) p) (sym (swapped n b.1 b.0 lb))
    (ordered_apart far limit n a.1 a.0 b.1 b.0 every few la one.0 lb two.0
    (and_comm (a.1 == b.1) (a.0 == b.0) ∙ same)))

chords_apart : (far limit n : ℕ) (a b : ℕ × ℕ)
    → AllApart far limit
    → n < limit
    → IsChord n a
    → IsChord n b
    → have_same_ends a b ≡ false
    → AreApart far (chord_place n a) (chord_place n b)
chords_apart far limit n a b every few one two other =
    let parts = or_parts (a.0 == b.0 && a.1 == b.1) (a.0 == b.1 && a.1 == b.0) other in
    apart_by far limit n a b every few one two (ordered n a one) (ordered n b two) parts.0 parts.1

pub few_apart : (n : ℕ) (a b : ℕ × ℕ)
    → n ≤ 8
    → IsChord n a
    → IsChord n b
    → have_same_ends a b ≡ false
    → AreApart 19 (chord_place n a) (chord_place n b)
few_apart n a b few = chords_apart 19 9 n a b eight_apart (omega arith)

pub more_apart : (n : ℕ) (a b : ℕ × ℕ)
    → n ≤ 20
    → IsChord n a
    → IsChord n b
    → have_same_ends a b ≡ false
    → AreApart 6 (chord_place n a) (chord_place n b)
more_apart n a b few = chords_apart 6 21 n a b twenty_apart (omega arith)
