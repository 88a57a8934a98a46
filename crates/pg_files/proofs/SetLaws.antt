-- Lists of numbers and their sets.
use Rattle.std.proofs.Common.{◌≡◌, ℕ, ◌+◌, ◌<◌, ◌≤◌, Bool, true, false, cond, ◌&&◌, List, [], ◌∷◌}
use Rattle.std.proofs.Common.{length, take, drop, get_or, add-one, drop-cons, refl, sym, ap, ◌∙◌}
use Rattle.std.proofs.Common.{arith, eqb, ltb, inl, inr, Less}
use Rattle.std.specs.Prelude.{nat_lt, nat_eq, ◌==◌}
use Rattle.pg_files.proofs.Common.{list_all, list_any, count_by, AllByRecursion, IsDistinct, FinSet}
use Rattle.pg_files.proofs.Common.{contains, insert, empty, from_list_push, contains-from_list_nat}
use Rattle.pg_files.proofs.Common.{contains-empty, nat_cmp, cases_Bool, cases_eq, cases_lt, eq-eqb}
use Rattle.pg_files.proofs.Common.{ne_eqb, eqb-true, ltb-true, and_parts, or_cases, or_parts}
use Rattle.pg_files.proofs.Common.{or_right, nat_tests, sum_by-cons, take_more, MAX_MEMBERS}
use Rattle.pg_files.proofs.Common.{members, points_below-ascend, has-points_below}
use Rattle.std.specs.List.Sorted.{IsPermutation, IsStrictlyIncreasing, IsStrictlySortedBy}
use Rattle.std.specs.Cmp.{nat_cmp_total, IsEquivalence, decided}
use Rattle.std.specs.FinMap.{nat_cmp-IsAntisymmetric}
use Rattle.std.proofs.lemmas.List.Sorted.{sum_by-IsPermutation}
use Rattle.std.proofs.lemmas.Map.Keys.{sorted_from_strictly_increasing}
use Rattle.std.proofs.lemmas.Map.Made.{length-from_same_keys}
use Rattle.pg_base.specs.Line.{StandsTwice}
use Rattle.pg_base.specs.WordLemmas.{in_insert}
use Rattle.pg_files.specs.Sets.{set_of, ascending, repeats}

-- ---- the steps of the loops

pub repeats_step : (s : FinSet nat_cmp) (ns : List ℕ) (i : ℕ)
    → i < length ns
    → contains s (get_or ns i 0) ≡ false
    → repeats (insert s (get_or ns i 0)) (drop (i + 1) ns) ≡ repeats s (drop i ns)
repeats_step s ns i lt e =
    let more : drop i ns ≡ get_or ns i 0 ∷ drop (i + 1) ns = rw (drop-cons ns i 0, add-one) refl in
    rw (more, e) refl

pub repeats_stop : (s : FinSet nat_cmp) (ns : List ℕ) (i : ℕ)
    → i < length ns
    → contains s (get_or ns i 0) ≡ true
    → repeats s (drop i ns) ≡ true
repeats_stop s ns i lt e = rw (drop-cons ns i 0, e) refl

pub set_of_step : (ns : List ℕ) (i : ℕ)
    → i < length ns
    → insert (set_of (take i ns)) (get_or ns i 0) ≡ set_of (take (i + 1) ns)
set_of_step ns i lt = sym (ap (λ (xs : List ℕ). set_of xs) (take_more ns i 0 lt)
    ∙ from_list_push nat_cmp_total nat_cmp-IsAntisymmetric (take i ns) (get_or ns i 0))

-- numbers below a limit are below a greater one
pub below_more : (limit : ℕ) (ns : List ℕ)
    → limit ≤ 1024
    → list_all (λ n. nat_lt n limit) ns ≡ true
    → list_all (λ n. nat_lt n 1024) ns ≡ true
below_more limit [] few all = refl
below_more limit (n ∷ ns) few all =
    let both = and_parts (nat_lt n limit) (list_all (λ n. nat_lt n limit) ns) all in
    let lt = ltb-true n limit both.0 in
    let here : ltb n 1024 ≡ true = grind (arith, nat_tests) in
    rw here (below_more limit ns few both.1)

-- ---- members of lists

-- whether the list has the number
abbrev pub has : List ℕ → ℕ → Bool
has ns q = list_any (λ y. nat_eq y q) ns

pub in_set_of : (ns : List ℕ) (q : ℕ) → contains (set_of ns) q ≡ has ns q
in_set_of ns q = contains-from_list_nat ns q

-- how often the list has the number
abbrev pub times : ℕ → List ℕ → ℕ
times v ns = count_by (λ q. q == v) ns

times-cons : (v n : ℕ) (ns : List ℕ) → times v (n ∷ ns) ≡ cond (n == v) 1 0 + times v ns
times-cons v n ns = sum_by-cons (λ q. cond (q == v) 1 0) n ns

has-times : (ns : List ℕ) (q : ℕ) → has ns q ≡ nat_lt 0 (times q ns)
has-times [] q = refl
has-times (n ∷ ns) q = elim (cases_Bool (nat_eq n q)) [
  | inl on ↦ rw (times-cons q n ns, on)
      (let t : ltb 0 (1 + times q ns) ≡ true = grind (arith, nat_tests) in sym t)
  | inr off ↦
      let z : times q ns ≡ 0 + times q ns = omega arith in
      rw (times-cons q n ns, off) (has-times ns q ∙ ap (λ k. nat_lt 0 k) z)
]

pub has-permutation : (ns ms : List ℕ) (q : ℕ) → IsPermutation ns ms → has ms q ≡ has ns q
has-permutation ns ms q moved = has-times ms q
    ∙ ap (λ k. nat_lt 0 k) (sum_by-IsPermutation (λ n. cond (n == q) 1 0) ns ms moved)
    ∙ sym (has-times ns q)

-- a number that isn't above one that is below all of the list
none_below : (x y : ℕ) (ns : List ℕ)
    → x ≤ y
    → AllByRecursion (λ z. nat_cmp y z ≡ Less) ns
    → has ns x ≡ false
none_below x y [] le h = refl
none_below x y (n ∷ ns) le h =
    let above : y < n = grind (arith, nat_tests, h.0) in
    rw (ne_eqb n x (λ e. absurd (omega (arith, e)))) (none_below x y ns le h.1)

-- lists in strict order with the same members are equal
pub same_sorted : (xs ys : List ℕ)
    → IsStrictlySortedBy nat_cmp xs
    → IsStrictlySortedBy nat_cmp ys
    → ((q : ℕ) → has xs q ≡ has ys q)
    → xs ≡ ys
unfolding IsStrictlySortedBy
same_sorted [] [] p q same = refl
same_sorted [] (y ∷ ys) p q same =
    let there : has (y ∷ ys) y ≡ true = rw (eq-eqb y y refl) refl in
    let here : has [] y ≡ false = refl in
    absurd (cc (same y))
same_sorted (x ∷ xs) [] p q same =
    let there : has (x ∷ xs) x ≡ true = rw (eq-eqb x x refl) refl in
    let here : has [] x ≡ false = refl in
    absurd (cc (same x))
same_sorted (x ∷ xs) (y ∷ ys) p q same =
    let first : x ≡ y = one x y xs ys p q same in
    let others : xs ≡ ys =
    same_sorted xs ys p.1 q.1 (λ v. behind x y xs ys v first p.0 q.0 (same v)) in
    rw (first, others) refl
  where
    not_in : (x y : ℕ) (ys : List ℕ)
        → x < y
        → AllByRecursion (λ z. nat_cmp y z ≡ Less) ys
        → has (y ∷ ys) x ≡ false
    not_in x y ys lt h =
        rw (ne_eqb y x (λ e. absurd (omega (arith, e)))) (none_below x y ys (omega arith) h)

    has_first : (x : ℕ) (xs : List ℕ) → has (x ∷ xs) x ≡ true
    has_first x xs = rw (eq-eqb x x refl) refl

    one : (x y : ℕ) (xs ys : List ℕ)
        → IsStrictlySortedBy nat_cmp (x ∷ xs)
        → IsStrictlySortedBy nat_cmp (y ∷ ys)
        → ((q : ℕ) → has (x ∷ xs) q ≡ has (y ∷ ys) q)
        → x ≡ y
    one x y xs ys p q same = elim (cases_lt x y) [
      | inl lt ↦ let a = not_in x y ys lt q.0 in let b = has_first x xs in absurd (cc (same x))
      | inr ge ↦ elim (cases_lt y x) [
        | inl gt ↦ let a = not_in y x xs gt p.0 in let b = has_first y ys in absurd (cc (same y))
        | inr le ↦ omega arith
      ]
    ]

    behind : (x y : ℕ) (xs ys : List ℕ) (v : ℕ)
        → x ≡ y
        → AllByRecursion (λ z. nat_cmp x z ≡ Less) xs
        → AllByRecursion (λ z. nat_cmp y z ≡ Less) ys
        → has (x ∷ xs) v ≡ has (y ∷ ys) v
        → has xs v ≡ has ys v
    behind x y xs ys v e p q same = elim (cases_eq v x) [
      | inl here ↦ none_below v x xs (omega arith) p ∙ sym (none_below v y ys (omega arith) q)
      | inr apart ↦
          let l : has (x ∷ xs) v ≡ has xs v = rw (ne_eqb x v (λ f. apart (sym f))) refl in
          let r : has (y ∷ ys) v ≡ has ys v =
          rw (ne_eqb y v (λ f. apart (omega (arith, f, e)))) refl in
          sym l ∙ same ∙ r
    ]

-- ---- numbers below a limit

-- a member of a list of numbers that are all below a number
pub has-below : (limit : ℕ) (ns : List ℕ) (q : ℕ)
    → list_all (λ n. nat_lt n limit) ns ≡ true
    → has ns q ≡ true
    → nat_lt q limit ≡ true
has-below limit [] q all h = absurd cc
has-below limit (n ∷ ns) q all h =
    let both = and_parts (nat_lt n limit) (list_all (λ n. nat_lt n limit) ns) all in
    elim (or_cases (nat_eq n q) (has ns q) h) [
      | inl here ↦ ap (λ k. nat_lt k limit) (sym (eqb-true n q here)) ∙ both.0
      | inr later ↦ has-below limit ns q both.1 later
    ]

within : (ns : List ℕ) (q : ℕ)
    → list_all (λ n. nat_lt n 1024) ns ≡ true
    → has ns q ≡ (has ns q && nat_lt q 1024)
within ns q all = elim (cases_Bool (has ns q)) [
  | inl on ↦ rw (on, has-below 1024 ns q all on) refl
  | inr off ↦ rw off refl
]

-- a list in strict order of numbers below 1,024 is that of the members of its set
pub members_are : (s : FinSet nat_cmp) (ns : List ℕ)
    → IsStrictlyIncreasing ns
    → list_all (λ n. nat_lt n 1024) ns ≡ true
    → ((q : ℕ) → has ns q ≡ contains s q)
    → ns ≡ members s
members_are s ns up below same = same_sorted ns (members s) (sorted_from_strictly_increasing ns up)
    (sorted_from_strictly_increasing (members s) (points_below-ascend s 1024)) (λ q.
    within ns q below ∙ ap (λ b. b && nat_lt q 1024) (same q) ∙ sym (has-points_below s 1024 q))

below_permutation : (limit : ℕ) (ns ms : List ℕ)
    → ((q : ℕ) → has ms q ≡ true → has ns q ≡ true)
    → list_all (λ n. nat_lt n limit) ns ≡ true
    → list_all (λ n. nat_lt n limit) ms ≡ true
below_permutation limit ns [] from all = refl
below_permutation limit ns (m ∷ ms) from all =
    let first : has (m ∷ ms) m ≡ true = rw (eq-eqb m m refl) refl in
    rw (has-below limit ns m all (from m first))
    (below_permutation limit ns ms (λ q h. from q (or_right (nat_eq m q) (has ms q) h)) all)

-- what sorting a list of different points gives
pub sorted_is_ascending : (ns line : List ℕ)
    → list_all (λ n. nat_lt n MAX_MEMBERS) ns ≡ true
    → IsPermutation ns line
    → IsStrictlyIncreasing line
    → line ≡ ascending ns
sorted_is_ascending ns line below moved up = members_are (set_of ns) line up
    (below_permutation 1024 ns line (λ q h. sym (has-permutation ns line q moved) ∙ h) below)
    (λ q. has-permutation ns line q moved ∙ sym (in_set_of ns q))

-- ---- repeated numbers

repeats_twice : (s : FinSet nat_cmp) (v : ℕ) (ns : List ℕ)
    → 2 ≤ cond (contains s v) 1 0 + times v ns
    → repeats s ns ≡ true
repeats_twice s v [] two = elim (cases_Bool (contains s v)) [
  | inl on ↦ absurd (omega (arith, rw on at two))
  | inr off ↦ absurd (omega (arith, rw off at two))
]
repeats_twice s v (n ∷ ns) two = elim (cases_Bool (contains s n)) [
  | inl on ↦ rw on refl
  | inr off ↦ rw off (repeats_twice (insert s n) v ns (goes s n v ns off two))
]
  where
    goes : (s : FinSet nat_cmp) (n v : ℕ) (ns : List ℕ)
        → contains s n ≡ false
        → 2 ≤ cond (contains s v) 1 0 + times v (n ∷ ns)
        → 2 ≤ cond (contains (insert s n) v) 1 0 + times v ns
    goes s n v ns off two = elim (cases_eq n v) [
      | inl here ↦
          let old : contains s v ≡ false = ap (contains s) (sym here) ∙ off in
          rw (in_insert s n v, eq-eqb v n (sym here))
          (let k = rw (old, times-cons v n ns, eq-eqb n v here) at two in omega arith)
      | inr apart ↦ rw (in_insert s n v, ne_eqb v n (λ e. apart (sym e)))
          (let k = rw (times-cons v n ns, ne_eqb n v apart) at two in omega arith)
    ]

pub repeats_from_twice : (ns : List ℕ) → StandsTwice ns → repeats empty ns ≡ true
repeats_from_twice ns h = repeats_twice empty h.point ns (omega (arith, h.twice))

-- what is read of a list that repeats nothing shares nothing with the set before
pub repeats_apart : (s : FinSet nat_cmp) (ns : List ℕ) (q : ℕ)
    → repeats s ns ≡ false
    → contains s q ≡ true
    → has ns q ≡ false
repeats_apart s [] q none h = refl
repeats_apart s (n ∷ ns) q none h =
    let both = or_parts (contains s n) (repeats (insert s n) ns) none in
    elim (cases_eq n q) [
      | inl here ↦ let there : contains s n ≡ true = ap (contains s) here ∙ h in absurd (cc)
      | inr apart ↦ rw (ne_eqb n q apart) (repeats_apart (insert s n) ns q both.1 (rw (
        in_insert s n q,
        h,
      ) (or_right (eqb q n) true refl)))
    ]

-- a list in strict order repeats nothing of a set that it shares nothing with
pub repeats_from_sorted : (s : FinSet nat_cmp) (ns : List ℕ)
    → IsStrictlySortedBy nat_cmp ns
    → ((q : ℕ) → has ns q ≡ true → contains s q ≡ false)
    → repeats s ns ≡ false
unfolding IsStrictlySortedBy
repeats_from_sorted s [] up apart = refl
repeats_from_sorted s (n ∷ ns) up apart = rw (apart n (rw (eq-eqb n n refl) refl))
    (repeats_from_sorted (insert s n) ns up.1 (λ q h. later s n ns q up apart h))
  where
    later : (s : FinSet nat_cmp) (n : ℕ) (ns : List ℕ) (q : ℕ)
        → IsStrictlySortedBy nat_cmp (n ∷ ns)
        → ((q : ℕ) → has (n ∷ ns) q ≡ true → contains s q ≡ false)
        → has ns q ≡ true
        → contains (insert s n) q ≡ false
    later s n ns q up apart h =
        let old : contains s q ≡ false = apart q (or_right (nat_eq n q) (has ns q) h) in
        elim (cases_eq q n) [
          | inl here ↦
              let none : has ns q ≡ false = none_below q n ns (omega arith) up.0 in
              absurd cc
          | inr differ ↦ rw (in_insert s n q, ne_eqb q n differ, old) refl
        ]

-- ---- there and back

-- a list in strict order of numbers below 1,024 is its own ascending list
pub ascending_is : (ns : List ℕ)
    → IsStrictlyIncreasing ns
    → list_all (λ n. nat_lt n 1024) ns ≡ true
    → ascending ns ≡ ns
ascending_is ns up below = sym (members_are (set_of ns) ns up below (λ q. sym (in_set_of ns q)))

-- ---- ascending lists

pub has-ascending : (ns : List ℕ) (q : ℕ)
    → list_all (λ n. nat_lt n 1024) ns ≡ true
    → has (ascending ns) q ≡ has ns q
has-ascending ns q below = has-points_below (set_of ns) 1024 q
    ∙ ap (λ b. b && nat_lt q 1024) (in_set_of ns q)
    ∙ sym (within ns q below)

-- whether two numbers are equal, the second first
abbrev same : ℕ → ℕ → Bool
same q n = nat_eq n q

same-equivalence : IsEquivalence same
same-equivalence = decided same (λ q n. (λ h. sym (eqb-true n q h), λ e. eq-eqb n q (sym e)))

has_none : (q : ℕ) (ns : List ℕ) → has ns q ≡ false → AllByRecursion (λ n. same q n ≡ false) ns
has_none q [] none = tt
has_none q (n ∷ ns) none =
    let both = or_parts (nat_eq n q) (has ns q) none in
    (both.0, has_none q ns both.1)

distinct_from_repeats : (s : FinSet nat_cmp) (ns : List ℕ)
    → repeats s ns ≡ false
    → IsDistinct same ns
unfolding IsDistinct
distinct_from_repeats s [] none = tt
distinct_from_repeats s (n ∷ ns) none =
    let both = or_parts (contains s n) (repeats (insert s n) ns) none in
    let held : contains (insert s n) n ≡ true = rw (in_insert s n n, eq-eqb n n refl) refl in (
      has_none n ns (repeats_apart (insert s n) ns n both.1 held),
      distinct_from_repeats (insert s n) ns both.1,
    )

pub repeats_none : (ns : List ℕ) → IsStrictlyIncreasing ns → repeats empty ns ≡ false
repeats_none ns up = repeats_from_sorted empty ns (sorted_from_strictly_increasing ns up)
    (λ q h. contains-empty nat_cmp q)

pub length-ascending : (ns : List ℕ)
    → list_all (λ n. nat_lt n 1024) ns ≡ true
    → repeats empty ns ≡ false
    → length (ascending ns) ≡ length ns
length-ascending ns below different = length-from_same_keys same-equivalence (ascending ns) ns
    (distinct_from_repeats empty (ascending ns)
    (repeats_none (ascending ns) (points_below-ascend (set_of ns) 1024)))
    (distinct_from_repeats empty ns different) (λ q. has-ascending ns q below)

below_keys : (limit : ℕ) (ms : List ℕ)
    → ((q : ℕ) → has ms q ≡ true → nat_lt q limit ≡ true)
    → list_all (λ n. nat_lt n limit) ms ≡ true
below_keys limit [] from = refl
below_keys limit (m ∷ ms) from = rw (from m (rw (eq-eqb m m refl) refl))
    (below_keys limit ms (λ q h. from q (or_right (nat_eq m q) (has ms q) h)))

pub below-ascending : (limit : ℕ) (ns : List ℕ)
    → list_all (λ n. nat_lt n limit) ns ≡ true
    → list_all (λ n. nat_lt n limit) (ascending ns) ≡ true
below-ascending limit ns below =
    below_keys limit (ascending ns) (λ q h. has-below limit ns q below (sym (in_set_of ns q)
    ∙ (and_parts (contains (set_of ns) q) (nat_lt q 1024)
    (sym (has-points_below (set_of ns) 1024 q) ∙ h)).0))

pub below-members : (limit : ℕ) (s : FinSet nat_cmp)
    → ((q : ℕ) → contains s q ≡ true → q < limit)
    → list_all (λ n. nat_lt n limit) (members s) ≡ true
below-members limit s below = below_keys limit (members s) (λ q h.
    let lt =
    below q (and_parts (contains s q) (nat_lt q 1024) (sym (has-points_below s 1024 q) ∙ h)).0 in
    let t : ltb q limit ≡ true = grind (arith, nat_tests) in t)

-- ---- printed marks

-- the members of a set that has none of another's
pub members-apart : (s t : FinSet nat_cmp)
    → ((q : ℕ) → contains s q ≡ true → contains t q ≡ false)
    → repeats s (members t) ≡ false
members-apart s t apart = repeats_from_sorted s (members t)
    (sorted_from_strictly_increasing (members t) (points_below-ascend t 1024)) (λ q h. free q
    (and_parts (contains t q) (nat_lt q 1024) (sym (has-points_below t 1024 q) ∙ h)).0)
  where
    free : (q : ℕ) → contains t q ≡ true → contains s q ≡ false
    free q held = elim (cases_Bool (contains s q)) [
      | inl on ↦ let no = apart q on in absurd cc
      | inr off ↦ off
    ]
