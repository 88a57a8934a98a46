-- The bits of words and the sets that they stand for.
use Rattle.std.proofs.Common.{◌≡◌, ◌≢◌, ℕ, zero, suc, ◌+◌, ◌*◌, ◌/◌, ◌%◌, ◌^◌, ◌<◌, ◌≤◌, ◌-◌, Bool}
use Rattle.std.proofs.Common.{true, false, cond, not, ◌&&◌, ◌||◌, List, length, get_or, set, nat_eq}
use Rattle.std.proofs.Common.{ltb, eqb, bit_and, bit_or, refl, sym, ap, ◌∙◌, inl, inr, arith, w64}
use Rattle.std.proofs.Common.{ext_get_or, get_or-set_same, get_or-set_other, length-set, eq-eqb}
use Rattle.std.proofs.Common.{ne_eqb, lt-ltb, le-ltb, pow_pos, pow-suc, mod-lt, lit<, replicate}
use Rattle.std.proofs.Common.{count_ones, add_comm, le_refl, mod-eq_of_lt}
use Rattle.pg_base.specs.Prelude.{bit_at, bit_not, nat_cmp, nat_cmp_total, unsigned_tied, FinSet}
use Rattle.pg_base.specs.Prelude.{empty, insert, remove, contains, contains-empty, contains-insert}
use Rattle.pg_base.specs.Prelude.{contains-remove, same_set, len, len-insert, len-empty}
use Rattle.pg_base.specs.Prelude.{nat_cmp-IsAntisymmetric}
use Rattle.std.proofs.lemmas.Bool.{cases_Bool, cases_eq, cases_lt, and_right}
use Rattle.std.proofs.lemmas.Grind.{common_steps}
use Rattle.std.proofs.lemmas.Nat.{or_lt, mod-pow-add, ones_cat}
use Rattle.std.proofs.Math.Nat.{mod-one}
use Rattle.std.proofs.lemmas.Bool.Decides.{nat_tests}
use Rattle.std.proofs.lemmas.Nat.Bits.{bit_at_set_same, bit_at_set_other, bit_at_clear_same}
use Rattle.std.proofs.lemmas.Nat.Bits.{bit_at_clear_other, bit_at_cat_low, bit_at_cat_high}
use Rattle.std.proofs.lemmas.Nat.Bits.{bit_at-lt, same_from_bits_below, bit_at-zero, shr_and_one}
use Rattle.std.proofs.lemmas.List.FromFn.{get_or-map-range_with_len, length-map-range_with_len}
use Rattle.std.specs.Int.Count.{ones, ones_in}
use Rattle.pg_base.specs.Points.{AreBelow}
use Rattle.pg_base.specs.Words.{has_bit, members_below, AreWords, word_below, word_of, words_of}
use Rattle.pg_base.specs.declared.limits.TheConstants.{MAX_MEMBERS}

-- ---- sets of numbers

pub in_insert : (s : FinSet nat_cmp) (v q : ℕ) → contains (insert s v) q ≡ (eqb q v || contains s q)
in_insert s v q =
    contains-insert nat_cmp_total s v q ∙ ap (λ b. b || contains s q) (unsigned_tied q v)

pub in_remove : (s : FinSet nat_cmp) (v q : ℕ)
    → contains (remove s v) q ≡ (not (eqb q v) && contains s q)
in_remove s v q =
    contains-remove nat_cmp_total s v q ∙ ap (λ b. not b && contains s q) (unsigned_tied q v)

pub same_points : (s t : FinSet nat_cmp) → ((q : ℕ) → contains s q ≡ contains t q) → s ≡ t
same_points s t h = same_set nat_cmp_total nat_cmp-IsAntisymmetric s t h

-- ---- which points words stand for

pub in_members_below : (ws : List ℕ) (n q : ℕ)
    → contains (members_below ws n) q ≡ (ltb q n && has_bit ws q)
unfolding members_below
in_members_below ws zero q =
    contains-empty nat_cmp q ∙ ap (λ b. b && has_bit ws q) (sym (le-ltb q 0 (omega arith)))
in_members_below ws (suc n) q =
    elim (cases_Bool (has_bit ws n)) [
      | inl on ↦ rw on (in_insert (members_below ws n) n q
          ∙ ap (λ b. eqb q n || b) (in_members_below ws n q)
          ∙ last_in q on)
      | inr off ↦ rw off (in_members_below ws n q ∙ last_out q off)
    ]
  where
    last_in : (q : ℕ)
        → has_bit ws n ≡ true
        → (eqb q n || (ltb q n && has_bit ws q)) ≡ (ltb q (suc n) && has_bit ws q)
    last_in q on = elim (cases_eq q n) [
      | inl e ↦ rw e (grind (arith, nat_tests))
      | inr ne ↦ grind (arith, nat_tests)
    ]

    last_out : (q : ℕ)
        → has_bit ws n ≡ false
        → (ltb q n && has_bit ws q) ≡ (ltb q (suc n) && has_bit ws q)
    last_out q off = elim (cases_eq q n) [
      | inl e ↦ rw e (grind (arith, nat_tests))
      | inr ne ↦ grind (arith, nat_tests)
    ]

-- ---- words from a set

pub word_below-lt : (f : ℕ → Bool) (k : ℕ) → word_below f k < 2 ^ k
unfolding word_below
word_below-lt f zero = omega arith
word_below-lt f (suc k) =
    let below = word_below-lt f k in
    rw (pow-suc 2 k) (elim (cases_Bool (f k)) [
      | inl on ↦ rw on (omega arith)
      | inr off ↦ rw off (omega arith)
    ])

bit_at-bit : (b : Bool) → bit_at (cond b 1 0) 0 ≡ cond b 1 0
bit_at-bit true = refl
bit_at-bit false = refl

pub bit_at-word_below : (f : ℕ → Bool) (k j : ℕ)
    → j < k
    → bit_at (word_below f k) j ≡ cond (f j) 1 0
unfolding word_below
bit_at-word_below f zero j h = absurd (omega arith)
bit_at-word_below f (suc k) j h =
    elim (cases_lt j k) [
      | inl lt ↦
          bit_at_cat_low (cond (f k) 1 0) k (word_below f k) j lt ∙ bit_at-word_below f k j lt
      | inr ge ↦
          let same : j ≡ k = omega arith in
          let zero_is : j - k ≡ 0 = omega arith in
          bit_at_cat_high (cond (f k) 1 0) k (word_below f k) j (word_below-lt f k) ge
          ∙ ap (bit_at (cond (f k) 1 0)) zero_is
          ∙ bit_at-bit (f k)
          ∙ ap (λ m. cond (f m) 1 0) (sym same)
    ]

pub bit_from_test : (n : ℕ) → n < 2 → cond (nat_eq n 1) 1 0 ≡ n
bit_from_test n h = elim (cases_eq n 1) [
  | inl e ↦ rw e refl
  | inr ne ↦ let none : n ≡ 0 = omega arith in rw none refl
]

pub has_bit-at : (ws : List ℕ) (i j : ℕ)
    → j < 64
    → has_bit ws (64 * i + j) ≡ nat_eq (bit_at (get_or ws i 0) j) 1
unfolding has_bit
has_bit-at ws i j h =
    let row : (64 * i + j) / 64 ≡ i = omega arith in
    let column : (64 * i + j) % 64 ≡ j = omega arith in
    rw (row, column) refl

-- the word of a row of the set that rows of words stand for
pub word_of-members : (ws : List ℕ) (rows i : ℕ)
    → get_or ws i 0 < 2 ^ 64
    → i < rows
    → word_of (members_below ws (64 * rows)) i ≡ get_or ws i 0
unfolding word_of
word_of-members ws rows i fits lt =
    same_from_bits_below 64 _ _ (word_below-lt _ 64) fits (λ j in_word.
    bit_at-word_below (λ j. contains (members_below ws (64 * rows)) (64 * i + j)) 64 j in_word
    ∙ ap (λ b. cond b 1 0) (in_members_below ws (64 * rows) (64 * i + j)
    ∙ ap (λ b. b && has_bit ws (64 * i + j)) (lt-ltb (64 * i + j) (64 * rows) (omega arith))
    ∙ has_bit-at ws i j in_word)
    ∙ bit_from_test _ (bit_at-lt (get_or ws i 0) j))

pub words_of-members : (ws : List ℕ) → AreWords ws → words_of (members_below ws MAX_MEMBERS) ≡ ws
unfolding words_of
words_of-members ws h =
    let s = members_below ws MAX_MEMBERS in
    let len : length (words_of s) ≡ 16 = length-map-range_with_len (word_of s) 0 16 in
    ext_get_or 0 _ _ (len ∙ sym h.count) (λ i lt.
    let within : i < 16 = omega arith in
    get_or-map-range_with_len (word_of s) 0 16 i i 0 within (omega arith)
    ∙ word_of-members ws 16 i (h.fit i) within)

test_of_bit : (b : Bool) → nat_eq (cond b 1 0) 1 ≡ b
test_of_bit true = refl
test_of_bit false = refl

-- a set within some rows is the one that its words in these rows stand for
pub members-of_words : (s : FinSet nat_cmp) (ws : List ℕ) (rows : ℕ)
    → AreBelow s (64 * rows)
    → ((i : ℕ) → i < rows → get_or ws i 0 ≡ word_of s i)
    → members_below ws (64 * rows) ≡ s
unfolding word_of
members-of_words s ws rows below words =
    same_points (members_below ws (64 * rows)) s (λ q. in_members_below ws (64 * rows) q
    ∙ elim (cases_lt q (64 * rows)) [
      | inl lt ↦
          let i = q / 64 in
          let j = q % 64 in
          let column : j < 64 = omega arith in
          let row : i < rows = omega (arith, lt) in
          let place : 64 * i + j ≡ q = omega arith in
          ap (λ b. b && has_bit ws q) (lt-ltb q (64 * rows) lt)
          ∙ ap (has_bit ws) (sym place)
          ∙ has_bit-at ws i j column
          ∙ ap (λ w. nat_eq (bit_at w j) 1) (words i row)
          ∙ ap (λ b. nat_eq b 1) (bit_at-word_below (λ c. contains s (64 * i + c)) 64 j column)
          ∙ test_of_bit (contains s (64 * i + j))
          ∙ ap (contains s) place
      | inr ge ↦ ap (λ b. b && has_bit ws q) (le-ltb q (64 * rows) ge)
          ∙ elim (cases_Bool (contains s q)) [
            | inl on ↦ let lt = below q on in absurd (omega (arith, lt, ge))
            | inr off ↦ sym off
          ]
    ])

-- rows of equal words stand for the same set
pub members-same : (ws vs : List ℕ) (rows : ℕ)
    → ((i : ℕ) → i < rows → get_or ws i 0 ≡ get_or vs i 0)
    → members_below ws (64 * rows) ≡ members_below vs (64 * rows)
members-same ws vs rows words = same_points (members_below ws (64 * rows))
    (members_below vs (64 * rows)) (λ q. in_members_below ws (64 * rows) q
    ∙ elim (cases_lt q (64 * rows)) [
      | inl lt ↦
          let i = q / 64 in
          let j = q % 64 in
          let column : j < 64 = omega arith in
          let row : i < rows = omega (arith, lt) in
          let place : 64 * i + j ≡ q = omega arith in
          let bit : has_bit ws q ≡ has_bit vs q = ap (has_bit ws) (sym place)
          ∙ has_bit-at ws i j column
          ∙ ap (λ w. nat_eq (bit_at w j) 1) (words i row)
          ∙ sym (has_bit-at vs i j column)
          ∙ ap (has_bit vs) place in
          ap (λ b. ltb q (64 * rows) && b) bit ∙ sym (in_members_below vs (64 * rows) q)
      | inr ge ↦
          let out = le-ltb q (64 * rows) ge in
          ap (λ b. b && has_bit ws q) out
          ∙ sym (in_members_below vs (64 * rows) q ∙ ap (λ b. b && has_bit vs q) out)
    ])

-- ---- one bit set or cleared

-- what a word becomes when a place's bit is set, or cleared
abbrev pub with_bit : List ℕ → ℕ → List ℕ
with_bit ws v = set ws (v / 64) (bit_or (get_or ws (v / 64) 0) (1 * 2 ^ (v % 64) % 2 ^ 64))

abbrev pub without_bit : List ℕ → ℕ → List ℕ
without_bit ws v =
    set ws (v / 64) (bit_and (get_or ws (v / 64) 0) (bit_not w64 (1 * 2 ^ (v % 64) % 2 ^ 64)))

column_below : (v : ℕ) → v % 64 < 64
column_below v = omega arith

pub row_below : (v : ℕ) → v < MAX_MEMBERS → v / 64 < 16
row_below v h = omega arith

other_column : (v q : ℕ) → q ≢ v → q / 64 ≡ v / 64 → q % 64 ≢ v % 64
other_column v q ne row column = ne (omega arith)

get_or-written : (ws : List ℕ) (v i w : ℕ)
    → v / 64 < length ws
    → i ≡ v / 64
    → get_or (set ws (v / 64) w) i 0 ≡ w
get_or-written ws v i w lt e = grind (arith, common_steps)

pub has_bit-with_same : (ws : List ℕ) (v : ℕ)
    → v / 64 < length ws
    → has_bit (with_bit ws v) v ≡ true
unfolding has_bit
has_bit-with_same ws v lt =
    ap (λ w. nat_eq (bit_at w (v % 64)) 1) (get_or-written ws v (v / 64) _ lt refl)
    ∙ ap (λ b. nat_eq b 1) (bit_at_set_same w64 (get_or ws (v / 64) 0) (v % 64) (column_below v))

pub has_bit-with_other : (ws : List ℕ) (v q : ℕ)
    → v / 64 < length ws
    → q ≢ v
    → has_bit (with_bit ws v) q ≡ has_bit ws q
unfolding has_bit
has_bit-with_other ws v q lt ne =
    elim (cases_eq (q / 64) (v / 64)) [
      | inl e ↦ ap (λ w. nat_eq (bit_at w (q % 64)) 1) (get_or-written ws v (q / 64) _ lt e)
          ∙ ap (λ b. nat_eq b 1) (bit_at_set_other w64 (get_or ws (v / 64) 0) (v % 64)
          (column_below v) (q % 64) (other_column v q ne e))
          ∙ ap (λ i. nat_eq (bit_at (get_or ws i 0) (q % 64)) 1) (sym e)
      | inr apart ↦
          ap (λ w. nat_eq (bit_at w (q % 64)) 1) (get_or-set_other ws (v / 64) (q / 64) _ 0 apart)
    ]

pub has_bit-without_same : (ws : List ℕ) (v : ℕ)
    → v / 64 < length ws
    → has_bit (without_bit ws v) v ≡ false
unfolding has_bit
has_bit-without_same ws v lt =
    ap (λ w. nat_eq (bit_at w (v % 64)) 1) (get_or-written ws v (v / 64) _ lt refl)
    ∙ ap (λ b. nat_eq b 1) (bit_at_clear_same w64 (get_or ws (v / 64) 0) (v % 64) (column_below v))

pub has_bit-without_other : (ws : List ℕ) (v q : ℕ)
    → v / 64 < length ws
    → q ≢ v
    → has_bit (without_bit ws v) q ≡ has_bit ws q
unfolding has_bit
has_bit-without_other ws v q lt ne =
    elim (cases_eq (q / 64) (v / 64)) [
      | inl e ↦ ap (λ w. nat_eq (bit_at w (q % 64)) 1) (get_or-written ws v (q / 64) _ lt e)
          ∙ ap (λ b. nat_eq b 1) (bit_at_clear_other w64 (get_or ws (v / 64) 0) (v % 64)
          (column_below v) (q % 64) (column_below q) (other_column v q ne e))
          ∙ ap (λ i. nat_eq (bit_at (get_or ws i 0) (q % 64)) 1) (sym e)
      | inr apart ↦
          ap (λ w. nat_eq (bit_at w (q % 64)) 1) (get_or-set_other ws (v / 64) (q / 64) _ 0 apart)
    ]

pub members-with : (ws : List ℕ) (v : ℕ)
    → AreWords ws
    → v < MAX_MEMBERS
    → members_below (with_bit ws v) MAX_MEMBERS ≡ insert (members_below ws MAX_MEMBERS) v
members-with ws v h lt =
    let row : v / 64 < length ws = omega (arith, h.count, row_below v lt) in
    same_points _ _ (λ q. in_members_below (with_bit ws v) MAX_MEMBERS q
    ∙ elim (cases_eq q v) as (λ _. (ltb q MAX_MEMBERS && has_bit (with_bit ws v) q)
    ≡ (eqb q v || (ltb q MAX_MEMBERS && has_bit ws q))) [
      | inl e ↦
          rw e (rw (has_bit-with_same ws v row, lt-ltb v MAX_MEMBERS lt, eq-eqb v v refl) refl)
      | inr ne ↦ rw (has_bit-with_other ws v q row ne, ne_eqb q v ne) refl
    ]
    ∙ sym (in_insert (members_below ws MAX_MEMBERS) v q
    ∙ ap (λ b. eqb q v || b) (in_members_below ws MAX_MEMBERS q)))

pub members-without : (ws : List ℕ) (v : ℕ)
    → AreWords ws
    → v < MAX_MEMBERS
    → members_below (without_bit ws v) MAX_MEMBERS ≡ remove (members_below ws MAX_MEMBERS) v
members-without ws v h lt =
    let row : v / 64 < length ws = omega (arith, h.count, row_below v lt) in
    same_points _ _ (λ q. in_members_below (without_bit ws v) MAX_MEMBERS q
    ∙ elim (cases_eq q v) as (λ _. (ltb q MAX_MEMBERS && has_bit (without_bit ws v) q)
    ≡ (not (eqb q v) && (ltb q MAX_MEMBERS && has_bit ws q))) [
      | inl e ↦
          rw e (rw (has_bit-without_same ws v row, lt-ltb v MAX_MEMBERS lt, eq-eqb v v refl) refl)
      | inr ne ↦ rw (has_bit-without_other ws v q row ne, ne_eqb q v ne) refl
    ]
    ∙ sym (in_remove (members_below ws MAX_MEMBERS) v q
    ∙ ap (λ b. not (eqb q v) && b) (in_members_below ws MAX_MEMBERS q)))

fit-set : (ws : List ℕ) (k w : ℕ) → AreWords ws → k < 16 → w < 2 ^ 64 → AreWords (set ws k w)
fit-set ws k w h lt below = record {
  count = length-set ws k w ∙ h.count;
  fit = λ i. elim (cases_eq i k) [
    | inl e ↦
        let inside : k < length ws = omega (arith, h.count) in
        rw e (rw (get_or-set_same ws k w 0 inside) below)
    | inr ne ↦ rw (get_or-set_other ws k i w 0 ne) (h.fit i)
  ];
}

pub AreWords-with : (ws : List ℕ) (v : ℕ) → AreWords ws → v < MAX_MEMBERS → AreWords (with_bit ws v)
AreWords-with ws v h lt =
    fit-set ws (v / 64) _ h (row_below v lt) (or_lt 64 _ _ (h.fit (v / 64)) (mod-lt _ (lit< tt)))

pub members-none : (ws : List ℕ)
    → ((q : ℕ) → has_bit ws q ≡ false)
    → members_below ws MAX_MEMBERS ≡ empty
members-none ws h = same_points _ _ (λ q. in_members_below ws MAX_MEMBERS q
    ∙ ap (λ b. ltb q MAX_MEMBERS && b) (h q)
    ∙ and_right (ltb q MAX_MEMBERS) false refl
    ∙ sym (contains-empty nat_cmp q))

pub has_bit-shift : (ws : List ℕ) (v : ℕ)
    → nat_eq (bit_and (get_or ws (v / 64) 0 / 2 ^ (v % 64)) 1) 1 ≡ has_bit ws v
unfolding has_bit
has_bit-shift ws v = ap (λ n. nat_eq n 1) (shr_and_one (get_or ws (v / 64) 0) (v % 64))

pub has-members : (ws : List ℕ) (v : ℕ)
    → v < MAX_MEMBERS
    → nat_eq (bit_and (get_or ws (v / 64) 0 / 2 ^ (v % 64)) 1) 1
    ≡ contains (members_below ws MAX_MEMBERS) v
has-members ws v lt = has_bit-shift ws v
    ∙ sym
    (in_members_below ws MAX_MEMBERS v ∙ ap (λ b. b && has_bit ws v) (lt-ltb v MAX_MEMBERS lt))

get_or-replicate_zero : (n i : ℕ) → get_or {A = ℕ} (replicate n 0) i 0 ≡ 0
get_or-replicate_zero zero i = refl
get_or-replicate_zero (suc n) zero = refl
get_or-replicate_zero (suc n) (suc i) = get_or-replicate_zero n i

pub members-zeros : members_below (replicate {A = ℕ} 16 0) MAX_MEMBERS ≡ empty
unfolding has_bit
members-zeros = members-none (replicate {A = ℕ} 16 0)
    (λ q. rw (get_or-replicate_zero 16 (q / 64)) (rw (bit_at-zero (q % 64)) refl))

-- ---- how many points

ones_of_bit : (b : ℕ) → b < 2 → count_ones b ≡ cond (nat_eq b 1) 1 0
unfolding ones ones_in
ones_of_bit b h = elim (cases_eq b 1) [
  | inl e ↦ rw e refl
  | inr ne ↦ let none : b ≡ 0 = omega arith in rw none refl
]

-- the bits of a word below a place, one more at a time
ones_more : (w k : ℕ)
    → count_ones (w % 2 ^ (k + 1)) ≡ cond (nat_eq (bit_at w k) 1) 1 0 + count_ones (w % 2 ^ k)
ones_more w k =
    let split : w % 2 ^ (1 + k) ≡ (w / 2 ^ k % 2 ^ 1) * 2 ^ k + w % 2 ^ k = mod-pow-add w 1 k in
    ap (λ e. count_ones (w % 2 ^ e)) (add_comm k 1)
    ∙ ap count_ones split
    ∙ ones_cat k (bit_at w k) (w % 2 ^ k) (mod-lt w (pow_pos k))
    ∙ ap (λ n. n + count_ones (w % 2 ^ k)) (ones_of_bit (bit_at w k) (bit_at-lt w k))

len-members_more : (ws : List ℕ) (n : ℕ)
    → len (members_below ws (suc n)) ≡ cond (has_bit ws n) 1 0 + len (members_below ws n)
unfolding members_below
len-members_more ws n =
    let fresh : contains (members_below ws n) n ≡ false =
    in_members_below ws n n ∙ ap (λ b. b && has_bit ws n) (le-ltb n n (le_refl n)) in
    elim (cases_Bool (has_bit ws n)) [
      | inl on ↦ rw on (len-insert nat_cmp_total (members_below ws n) n ∙ rw fresh (omega arith))
      | inr off ↦ rw off (omega arith)
    ]

-- as far as a place of a word: the points of the words before it, and its bits below the place
len-members_word : (ws : List ℕ) (i k : ℕ)
    → k ≤ 64
    → len (members_below ws (64 * i + k))
    ≡ len (members_below ws (64 * i)) + count_ones (get_or ws i 0 % 2 ^ k)
len-members_word ws i zero h =
    let start : 64 * i + 0 ≡ 64 * i = omega arith in
    let none : get_or ws i 0 % 2 ^ 0 ≡ 0 = mod-one (get_or ws i 0) in
    let no_ones : count_ones 0 ≡ 0 = ones_of_bit 0 (lit< tt) in
    rw (start, none, no_ones) (omega arith)
len-members_word ws i (suc k) h =
    let next : 64 * i + suc k ≡ suc (64 * i + k) = omega arith in
    let after : suc k ≡ k + 1 = omega arith in
    let before = len-members_word ws i k (omega arith) in
    let bits = ones_more (get_or ws i 0) k in
    let more = len-members_more ws (64 * i + k) in
    let bit = ap (λ b. cond b 1 0) (has_bit-at ws i k (omega arith)) in
    ap (λ n. len (members_below ws n)) next
    ∙ more
    ∙ (ap (λ n. n + len (members_below ws (64 * i + k))) bit
    ∙ rw before (rw after (rw bits (omega arith))))

pub len-members_row : (ws : List ℕ) (i : ℕ)
    → get_or ws i 0 < 2 ^ 64
    → len (members_below ws (64 * (i + 1)))
    ≡ len (members_below ws (64 * i)) + count_ones (get_or ws i 0)
len-members_row ws i fit =
    let next : 64 * (i + 1) ≡ 64 * i + 64 = omega arith in
    ap (λ n. len (members_below ws n)) next
    ∙ len-members_word ws i 64 (le_refl 64)
    ∙ ap (λ w. len (members_below ws (64 * i)) + count_ones w) (mod-eq_of_lt fit)

pub len-members_start : (ws : List ℕ) → len (members_below ws 0) ≡ 0
unfolding members_below
len-members_start ws = len-empty nat_cmp

pub members-beyond : (ws : List ℕ) (q : ℕ)
    → MAX_MEMBERS ≤ q
    → contains (members_below ws MAX_MEMBERS) q ≡ false
members-beyond ws q h =
    in_members_below ws MAX_MEMBERS q ∙ ap (λ b. b && has_bit ws q) (le-ltb q MAX_MEMBERS h)
