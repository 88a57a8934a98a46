-- Sets of points a row of 64 at a time: a word's bits are the points of its row.
use Rattle.std.proofs.Common.{◌≡◌, ◌≢◌, ℕ, ◌+◌, ◌*◌, ◌/◌, ◌%◌, ◌^◌, ◌<◌, ◌≤◌, ◌-◌, Bool, true}
use Rattle.std.proofs.Common.{false, not, ◌&&◌, ◌||◌, List, get_or, nat_eq, bit_and, bit_or, refl}
use Rattle.std.proofs.Common.{sym, ap, subst, ◌∙◌, inl, inr, ◌⊎◌, arith, w64, lt-ltb, min, max}
use Rattle.std.proofs.Common.{lit<}
use Rattle.pg_base.proofs.Common.{cases_lt, both_ways, and_le_l, pow-add, div-div-eq-div-mul}
use Rattle.pg_base.proofs.Common.{div-le_self, bit_at-lt, bit_at-zero, bit_at_and, bit_at_or}
use Rattle.pg_base.proofs.Common.{bit_at_not, bit_at_above, bit_at-trailing_zeros}
use Rattle.pg_base.proofs.Common.{same_from_bits_below, bit_at, bit_not, trailing_zeros, contains}
use Rattle.pg_base.specs.Words.{has_bit, members_below, AreWords}
use Rattle.pg_base.specs.WordLemmas.{in_members_below, has_bit-at, members-beyond}
use Rattle.pg_base.specs.Points.{IsLeastFrom, AreBelow, ShareNone, AreWithin}
use Rattle.pg_base.specs.declared.limits.TheConstants.{MAX_MEMBERS}

-- whether the bit is set
abbrev pub bit_test : ℕ → ℕ → Bool
bit_test n j = nat_eq (bit_at n j) 1

-- ---- bits of words

bit_cases : (n j : ℕ) → (bit_at n j ≡ 0) ⊎ (bit_at n j ≡ 1)
bit_cases n j = elim (cases_lt (bit_at n j) 1) [
  | inl lt ↦ inl (omega arith)
  | inr ge ↦ let small = bit_at-lt n j in inr (omega arith)
]

pub bit_test-and : (a b j : ℕ) → bit_test (bit_and a b) j ≡ (bit_test a j && bit_test b j)
bit_test-and a b j = ap (λ n. nat_eq n 1) (bit_at_and a b j)
    ∙ elim (bit_cases a j) as (λ _.
    nat_eq (min (bit_at a j) (bit_at b j)) 1 ≡ (bit_test a j && bit_test b j)) [
      | inl p ↦ elim (bit_cases b j) [ inl q ↦ rw (p, q) refl | inr q ↦ rw (p, q) refl ]
      | inr p ↦ elim (bit_cases b j) [ inl q ↦ rw (p, q) refl | inr q ↦ rw (p, q) refl ]
    ]

pub bit_test-or : (a b j : ℕ) → bit_test (bit_or a b) j ≡ (bit_test a j || bit_test b j)
bit_test-or a b j = ap (λ n. nat_eq n 1) (bit_at_or a b j)
    ∙ elim (bit_cases a j) as (λ _.
    nat_eq (max (bit_at a j) (bit_at b j)) 1 ≡ (bit_test a j || bit_test b j)) [
      | inl p ↦ elim (bit_cases b j) [ inl q ↦ rw (p, q) refl | inr q ↦ rw (p, q) refl ]
      | inr p ↦ elim (bit_cases b j) [ inl q ↦ rw (p, q) refl | inr q ↦ rw (p, q) refl ]
    ]

pub bit_test-not : (n j : ℕ) → n < 2 ^ 64 → j < 64 → bit_test (bit_not w64 n) j ≡ not (bit_test n j)
bit_test-not n j fit column = ap (λ m. nat_eq m 1) (bit_at_not w64 n j fit column)
    ∙ elim (bit_cases n j) as (λ _. nat_eq (1 - bit_at n j) 1 ≡ not (bit_test n j)) [
      | inl p ↦ rw p refl
      | inr p ↦ rw p refl
    ]

bit_test-zero : (j : ℕ) → bit_test 0 j ≡ false
bit_test-zero j = ap (λ n. nat_eq n 1) (bit_at-zero j)

off-zero : (n j : ℕ) → bit_test n j ≡ false → bit_at n j ≡ 0
off-zero n j off = elim (bit_cases n j) [
  | inl p ↦ p
  | inr p ↦ absurd (both_ways _ off (ap (λ m. nat_eq m 1) p))
]

-- a word without a bit is 0
pub zero-from_tests : (n : ℕ) → n < 2 ^ 64 → ((j : ℕ) → j < 64 → bit_test n j ≡ false) → n ≡ 0
zero-from_tests n fit off = same_from_bits_below 64 n 0 fit (lit< tt)
    (λ j column. off-zero n j (off j column) ∙ sym (bit_at-zero j))

-- ---- points by row and column

-- the points that words stand for are below 1,024
pub AreBelow-words : (ws : List ℕ) → AreBelow (members_below ws MAX_MEMBERS) MAX_MEMBERS
AreBelow-words ws v here = elim (cases_lt v MAX_MEMBERS) [
  | inl lt ↦ lt
  | inr ge ↦ absurd (both_ways _ (members-beyond ws v ge) here)
]

pub contains-at : (ws : List ℕ) (i j : ℕ)
    → i < 16
    → j < 64
    → contains (members_below ws MAX_MEMBERS) (64 * i + j) ≡ bit_test (get_or ws i 0) j
contains-at ws i j row column = in_members_below ws MAX_MEMBERS (64 * i + j)
    ∙ ap (λ b. b && has_bit ws (64 * i + j)) (lt-ltb (64 * i + j) MAX_MEMBERS (omega arith))
    ∙ has_bit-at ws i j column

-- what holds at each row and column holds at each point below 1,024
by_rows : (P : ℕ → Type 0)
    → ((i j : ℕ) → i < 16 → j < 64 → P (64 * i + j))
    → (v : ℕ) → v < MAX_MEMBERS
    → P v
by_rows P each v lt =
    let there : 64 * (v / 64) + v % 64 ≡ v = omega arith in
    subst P there (each (v / 64) (v % 64) (omega arith) (omega arith))

-- a word of two words and a test of two tests, which agree at each bit
module _ (op : ℕ → ℕ → ℕ) (test : Bool → Bool → Bool)
    (agree : (a b j : ℕ) → a < 2 ^ 64
    → b < 2 ^ 64
    → j < 64
    → bit_test (op a b) j ≡ test (bit_test a j) (bit_test b j))
    (nothing : test false false ≡ false) where
  tests-at : (ws us : List ℕ)
      → AreWords ws
      → AreWords us
      → (i j : ℕ) → i < 16
      → j < 64
      → test (contains (members_below ws MAX_MEMBERS) (64 * i + j))
      (contains (members_below us MAX_MEMBERS) (64 * i + j))
      ≡ bit_test (op (get_or ws i 0) (get_or us i 0)) j
  tests-at ws us mine theirs i j row column = rw (
    contains-at ws i j row column,
    contains-at us i j row column,
  ) (sym (agree _ _ j (mine.fit i) (theirs.fit i) column))

  tests-beyond : (ws us : List ℕ) (v : ℕ)
      → MAX_MEMBERS ≤ v
      → test (contains (members_below ws MAX_MEMBERS) v) (contains (members_below us MAX_MEMBERS) v)
      ≡ false
  tests-beyond ws us v beyond = rw (members-beyond ws v beyond, members-beyond us v beyond) nothing

  pub contains-from_rows : (ws us os : List ℕ)
      → AreWords ws
      → AreWords us
      → ((i : ℕ) → i < 16 → get_or os i 0 ≡ op (get_or ws i 0) (get_or us i 0))
      → (v : ℕ) → contains (members_below os MAX_MEMBERS) v
      ≡ test (contains (members_below ws MAX_MEMBERS) v) (contains (members_below us MAX_MEMBERS) v)
  contains-from_rows ws us os mine theirs rows v = elim (cases_lt v MAX_MEMBERS) [
    | inl lt ↦ by_rows (λ v. contains (members_below os MAX_MEMBERS) v ≡ test
        (contains (members_below ws MAX_MEMBERS) v) (contains (members_below us MAX_MEMBERS) v))
        (λ i j row column. contains-at os i j row column
        ∙ ap (λ w. bit_test w j) (rows i row)
        ∙ sym (tests-at ws us mine theirs i j row column)) v lt
    | inr beyond ↦ members-beyond os v beyond ∙ sym (tests-beyond ws us v beyond)
  ]

  pub none-from_rows : (ws us : List ℕ)
      → AreWords ws
      → AreWords us
      → ((i : ℕ) → i < 16 → op (get_or ws i 0) (get_or us i 0) ≡ 0)
      → (v : ℕ) → test (contains (members_below ws MAX_MEMBERS) v)
      (contains (members_below us MAX_MEMBERS) v) ≡ false
  none-from_rows ws us mine theirs rows v = elim (cases_lt v MAX_MEMBERS) [
    | inl lt ↦ by_rows (λ v. test (contains (members_below ws MAX_MEMBERS) v)
        (contains (members_below us MAX_MEMBERS) v) ≡ false)
        (λ i j row column. tests-at ws us mine theirs i j row column
        ∙ ap (λ w. bit_test w j) (rows i row)
        ∙ bit_test-zero j) v lt
    | inr beyond ↦ tests-beyond ws us v beyond
  ]

  pub row-from_none : (ws us : List ℕ)
      → AreWords ws
      → AreWords us
      → ((v : ℕ) → test (contains (members_below ws MAX_MEMBERS) v)
      (contains (members_below us MAX_MEMBERS) v) ≡ false)
      → (i : ℕ) → i < 16
      → op (get_or ws i 0) (get_or us i 0) < 2 ^ 64
      → op (get_or ws i 0) (get_or us i 0) ≡ 0
  row-from_none ws us mine theirs none i row fit = zero-from_tests _ fit
      (λ j column. sym (tests-at ws us mine theirs i j row column) ∙ none (64 * i + j))

-- ---- the four words that are asked for

abbrev pub cleared : ℕ → ℕ → ℕ
cleared a b = bit_and a (bit_not w64 b)

abbrev and_not : Bool → Bool → Bool
and_not p q = p && not q

bit_test-cleared : (a b j : ℕ)
    → b < 2 ^ 64
    → j < 64
    → bit_test (cleared a b) j ≡ (bit_test a j && not (bit_test b j))
bit_test-cleared a b j fit column =
    bit_test-and a (bit_not w64 b) j ∙ ap (λ t. bit_test a j && t) (bit_test-not b j fit column)

pub contains-or_rows : (ws us os : List ℕ)
    → AreWords ws
    → AreWords us
    → ((i : ℕ) → i < 16 → get_or os i 0 ≡ bit_or (get_or ws i 0) (get_or us i 0))
    → (v : ℕ) → contains (members_below os MAX_MEMBERS) v
    ≡ (contains (members_below ws MAX_MEMBERS) v || contains (members_below us MAX_MEMBERS) v)
contains-or_rows = contains-from_rows bit_or (λ p q. p || q) (λ a b j _ _ _. bit_test-or a b j) refl

pub contains-cleared_rows : (ws us os : List ℕ)
    → AreWords ws
    → AreWords us
    → ((i : ℕ) → i < 16 → get_or os i 0 ≡ cleared (get_or ws i 0) (get_or us i 0))
    → (v : ℕ) → contains (members_below os MAX_MEMBERS) v
    ≡ (contains (members_below ws MAX_MEMBERS) v && not (contains (members_below us MAX_MEMBERS) v))
contains-cleared_rows = contains-from_rows cleared and_not
    (λ a b j _ fit column. bit_test-cleared a b j fit column) refl

and_off : (p q : Bool) → (p && q) ≡ false → p ≡ true → q ≡ false
and_off true q h on = h
and_off false q h on = cc

off_and : (p q : Bool) → (p ≡ true → q ≡ false) → (p && q) ≡ false
off_and true q h = h refl
off_and false q h = refl

and_not_off : (p q : Bool) → (p && not q) ≡ false → p ≡ true → q ≡ true
and_not_off true true h on = refl
and_not_off true false h on = cc
and_not_off false q h on = cc

off_and_not : (p q : Bool) → (p ≡ true → q ≡ true) → (p && not q) ≡ false
off_and_not true q h = rw (h refl) refl
off_and_not false q h = refl

pub ShareNone-from_rows : (ws us : List ℕ)
    → AreWords ws
    → AreWords us
    → ((i : ℕ) → i < 16 → bit_and (get_or ws i 0) (get_or us i 0) ≡ 0)
    → ShareNone (members_below ws MAX_MEMBERS) (members_below us MAX_MEMBERS)
ShareNone-from_rows ws us mine theirs rows v = and_off _ _
    (none-from_rows bit_and (λ p q. p && q)
    (λ a b j _ _ _. bit_test-and a b j) refl ws us mine theirs rows v)

pub row-from_ShareNone : (ws us : List ℕ)
    → AreWords ws
    → AreWords us
    → ShareNone (members_below ws MAX_MEMBERS) (members_below us MAX_MEMBERS)
    → (i : ℕ) → i < 16
    → bit_and (get_or ws i 0) (get_or us i 0) ≡ 0
row-from_ShareNone ws us mine theirs none i row = row-from_none bit_and (λ p q. p && q)
    (λ a b j _ _ _. bit_test-and a b j) refl ws us mine theirs (λ v. off_and _ _ (none v)) i row
    (omega (arith, and_le_l (get_or ws i 0) (get_or us i 0), mine.fit i))

pub AreWithin-from_rows : (ws us : List ℕ)
    → AreWords ws
    → AreWords us
    → ((i : ℕ) → i < 16 → cleared (get_or ws i 0) (get_or us i 0) ≡ 0)
    → AreWithin (members_below ws MAX_MEMBERS) (members_below us MAX_MEMBERS)
AreWithin-from_rows ws us mine theirs rows v = and_not_off _ _
    (none-from_rows cleared and_not
    (λ a b j _ fit column. bit_test-cleared a b j fit column) refl ws us mine theirs rows v)

pub row-from_AreWithin : (ws us : List ℕ)
    → AreWords ws
    → AreWords us
    → AreWithin (members_below ws MAX_MEMBERS) (members_below us MAX_MEMBERS)
    → (i : ℕ) → i < 16
    → cleared (get_or ws i 0) (get_or us i 0) ≡ 0
row-from_AreWithin ws us mine theirs each i row =
    row-from_none cleared and_not (λ a b j _ fit column. bit_test-cleared a b j fit column) refl ws
    us mine theirs (λ v. off_and_not _ _ (each v)) i row
    (omega (arith, and_le_l (get_or ws i 0) (bit_not w64 (get_or us i 0)), mine.fit i))

-- ---- the first point of a row

-- the bits of a word from a column on
bit_at-from : (n k j : ℕ) → bit_at (n / 2 ^ k) j ≡ bit_at n (k + j)
bit_at-from n k j =
    ap (λ m. m % 2) (div-div-eq-div-mul n (2 ^ k) (2 ^ j) ∙ ap (λ p. n / p) (sym (pow-add 2 k j)))

-- a number from the start of a row on is the row's start and a column
column_of : (i c q : ℕ) → 64 * i + c ≤ q → 64 * i + (c + (q - (64 * i + c))) ≡ q
column_of i c q above = omega arith

pub none-in_row : (ws : List ℕ) (i c : ℕ)
    → i < 16
    → get_or ws i 0 / 2 ^ c ≡ 0
    → (q : ℕ) → 64 * i + c ≤ q
    → q < 64 * (i + 1)
    → contains (members_below ws MAX_MEMBERS) q ≡ false
none-in_row ws i c row zero_is q above below =
    let j = q - (64 * i + c) in
    let off : bit_at (get_or ws i 0) (c + j) ≡ 0 =
    sym (bit_at-from (get_or ws i 0) c j) ∙ ap (λ w. bit_at w j) zero_is ∙ bit_at-zero j in
    subst (λ (v : ℕ). contains (members_below ws MAX_MEMBERS) v ≡ false) (column_of i c q above)
    (contains-at ws i (c + j) row (omega arith) ∙ ap (λ n. nat_eq n 1) off)

pub least-in_row : (ws : List ℕ) (i c : ℕ)
    → AreWords ws
    → i < 16
    → c < 64
    → get_or ws i 0 / 2 ^ c ≢ 0
    → IsLeastFrom (members_below ws MAX_MEMBERS) (64 * i + c)
    (64 * i + c + trailing_zeros w64 (get_or ws i 0 / 2 ^ c))
least-in_row ws i c words row column some =
    let w = get_or ws i 0 in
    let fit : w / 2 ^ c < 2 ^ 64 = omega (arith, div-le_self w (2 ^ c), words.fit i) in
    let first = bit_at-trailing_zeros w64 (w / 2 ^ c) (omega (arith, some)) fit in
    let k = trailing_zeros w64 (w / 2 ^ c) in
    let on : bit_at w (c + k) ≡ 1 = sym (bit_at-from w c k) ∙ first.1 in
    let inside : c + k < 64 = elim (cases_lt (c + k) 64) [
      | inl lt ↦ lt
      | inr ge ↦
          let off = bit_at_above w 64 (c + k) (words.fit i) ge in
          absurd (omega (arith, on, off))
    ] in
    let place : 64 * i + (c + k) ≡ 64 * i + c + k = omega arith in
    record {
      member = subst (λ (v : ℕ). contains (members_below ws MAX_MEMBERS) v ≡ true) place
          (contains-at ws i (c + k) row inside ∙ ap (λ n. nat_eq n 1) on);
      above = omega arith;
      least = λ q above here. elim (cases_lt q (64 * i + c + k)) [
        | inr ge ↦ ge
        | inl before ↦
            let j = q - (64 * i + c) in
            let off : bit_at w (c + j) ≡ 0 = sym (bit_at-from w c j) ∙ first.2 j (omega arith) in
            let gone : contains (members_below ws MAX_MEMBERS) q ≡ false = subst
            (λ (v : ℕ). contains (members_below ws MAX_MEMBERS) v ≡ false) (column_of i c q above)
            (contains-at ws i (c + j) row (omega arith) ∙ ap (λ n. nat_eq n 1) off) in
            absurd (both_ways _ gone here)
      ];
    }
