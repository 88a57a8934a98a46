-- Vectors and their signs.
use Rattle.std.proofs.Common.{◌≡◌, ℕ, zero, suc, ◌+◌, ◌*◌, ◌-◌, ◌^◌, ◌<◌, ◌≤◌, Bool, true, false}
use Rattle.std.proofs.Common.{cond, ◌&&◌, inl, inr, [], ◌∷◌, length, drop, get_or, add-one}
use Rattle.std.proofs.Common.{drop-cons, arith, refl, ap, subst, lit<, lit≤, ◌∙◌}
use Rattle.std.specs.Prelude.{◌==◌, if◌then◌else◌, Some, None, is_none, unwrap_or}
use Rattle.pg_family_files.proofs.Common.{list_all, pow-succ', pow-le-pow_right, cases_Bool}
use Rattle.pg_family_files.proofs.Common.{and_parts, eqb-true, nat_tests, Bytes}
use Rattle.pg_family_files.specs.FamilyFile.{is_sign, signs_value, vector_of}

pub and_first : (a b : Bool) → a ≡ false → (a && b) ≡ false
and_first false b e = refl
and_first true b e = absurd cc

-- ---- reading, from the last sign to the first

value_from : (ns : Bytes) (i : ℕ)
    → i < length ns
    → signs_value (drop i ns) ≡ cond (get_or ns i 0 == 49) 1 0 + 2 * signs_value (drop (i + 1) ns)
value_from ns i lt = rw (drop-cons ns i 0, add-one) refl

sign_at : (ns : Bytes) (i : ℕ)
    → list_all is_sign ns ≡ true
    → i < length ns
    → is_sign (get_or ns i 0) ≡ true
sign_at [] i all lt = absurd (omega arith)
sign_at (b ∷ bs) zero all lt = (and_parts (is_sign b) (list_all is_sign bs) all).0
sign_at (b ∷ bs) (suc i) all lt =
    sign_at bs i (and_parts (is_sign b) (list_all is_sign bs) all).1 (omega arith)

-- what a sign adds
pub sign_bit : (b : ℕ) → is_sign b ≡ true → (48 ≤ b) × (b - 48 ≡ cond (b == 49) 1 0) × (b - 48 ≤ 1)
sign_bit b is = elim (cases_Bool (b == 49)) [
  | inl one ↦
      let n : b ≡ 49 = grind (arith, nat_tests) in
      (omega arith, rw (one, n) refl, omega arith)
  | inr other ↦
      let n : b ≡ 48 = grind (arith, nat_tests) in
      (omega arith, rw (other, n) refl, omega arith)
]

-- the sign that is read next
pub bit_at : (ns : Bytes) (left : ℕ)
    → list_all is_sign ns ≡ true
    → 0 < left
    → left ≤ length ns
    → (48 ≤ get_or ns (left - 1) 0)
    × (get_or ns (left - 1) 0 - 48 ≡ cond (get_or ns (left - 1) 0 == 49) 1 0)
    × (get_or ns (left - 1) 0 - 48 ≤ 1)
bit_at ns left all some within =
    sign_bit (get_or ns (left - 1) 0) (sign_at ns (left - 1) all (omega arith))

step_at : (ns : Bytes) (k found : ℕ)
    → list_all is_sign ns ≡ true
    → k < length ns
    → found ≡ signs_value (drop (k + 1) ns)
    → found * 2 + (get_or ns k 0 - 48) ≡ signs_value (drop k ns)
step_at ns k found all lt is =
    let bit = sign_bit (get_or ns k 0) (sign_at ns k all lt) in
    let more = value_from ns k lt in
    omega (arith, bit.1, more, is)

pub step_value : (ns : Bytes) (left found : ℕ)
    → list_all is_sign ns ≡ true
    → 0 < left
    → left ≤ length ns
    → found ≡ signs_value (drop left ns)
    → found * 2 + (get_or ns (left - 1) 0 - 48) ≡ signs_value (drop (left - 1) ns)
step_value ns left found all some within is =
    let same : left ≡ (left - 1) + 1 = omega arith in
    step_at ns (left - 1) found all (omega arith) (is ∙ ap (λ i. signs_value (drop i ns)) same)

pub step_small : (n left found bit : ℕ)
    → 0 < left
    → left ≤ n
    → bit ≤ 1
    → found < 2 ^ (n - left)
    → found * 2 + bit < 2 ^ (n - (left - 1))
step_small n left found bit some within few small =
    let one : n - (left - 1) ≡ suc (n - left) = omega arith in
    let double : 2 ^ (n - (left - 1)) ≡ 2 * 2 ^ (n - left) =
    ap (λ k. 2 ^ k) one ∙ pow-succ' 2 (n - left) in
    omega (arith, double, small)

pub small_128 : (n left found : ℕ) → n ≤ 128 → 0 < left → found < 2 ^ (n - left) → found < 2 ^ 127
small_128 n left found few some small =
    let more = pow-le-pow_right {n = 2} (omega arith) {i = n - left} {j = 127} (omega arith) in
    omega (arith, more, small)

-- ---- how great a vector is

below_length : (ns : Bytes) → signs_value ns < 2 ^ length ns
below_length [] = lit< tt
below_length (b ∷ bs) =
    let double : 2 ^ suc (length bs) ≡ 2 * 2 ^ length bs = pow-succ' 2 (length bs) in
    let bit : cond (b == 49) 1 0 ≤ 1 = bit_few (b == 49) in
    omega (arith, double, bit, below_length bs)
  where
    bit_few : (t : Bool) → cond t 1 0 ≤ 1
    bit_few true = lit≤ tt
    bit_few false = lit≤ tt

some_value : (t : Bool) (v bound : ℕ)
    → (t ≡ true → v < bound)
    → is_none (if t then Some v else None) ≡ false
    → unwrap_or (if t then Some v else None) 0 < bound
some_value true v bound below some = below refl
some_value false v bound below some = absurd cc

pub vector_below : (rows : ℕ) (word : Bytes)
    → is_none (vector_of rows word) ≡ false
    → unwrap_or (vector_of rows word) 0 < 2 ^ rows
vector_below rows word some =
    some_value (length word == rows && list_all is_sign word) (signs_value word) (2 ^ rows)
    (λ t. below (and_parts (length word == rows) (list_all is_sign word) t).0) some
  where
    below : (length word == rows) ≡ true → signs_value word < 2 ^ rows
    below e =
        subst (λ k. signs_value word < 2 ^ k) (eqb-true (length word) rows e) (below_length word)
