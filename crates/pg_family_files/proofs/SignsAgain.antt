-- The signs of a vector are read again as that vector.
use Rattle.std.proofs.Common.{◌≡◌, ℕ, zero, suc, ◌+◌, ◌*◌, ◌/◌, ◌%◌, ◌^◌, ◌<◌, ◌≤◌, true, false}
use Rattle.std.proofs.Common.{cond, ◌&&◌, length, arith, refl, ap, ap₂}
use Rattle.std.specs.Prelude.{◌==◌, nat_lt, Some}
use Rattle.pg_family_files.proofs.Common.{list_all, pow-succ', eq-eqb, nat_tests, is_word}
use Rattle.pg_family_files.specs.FamilyFile.{is_sign, signs_value, vector_of}
use Rattle.pg_family_files.specs.Print.{signs_of}

pub signs_length : (r v : ℕ) → length (signs_of r v) ≡ r
unfolding signs_of
signs_length zero v = refl
signs_length (suc r) v = ap (λ (n : ℕ). suc n) (signs_length r (v / 2))

-- a sign of a bit
record IsSignOf (bit : ℕ) : Type 0 where
  sign : is_sign (48 + bit) ≡ true
  plain : (nat_lt 32 (48 + bit) && nat_lt (48 + bit) 124) ≡ true
  value : cond (48 + bit == 49) 1 0 ≡ bit

bit_sign : (bit : ℕ) → bit < 2 → IsSignOf bit
bit_sign zero lt = record { sign = refl; plain = refl; value = refl }
bit_sign (suc zero) lt = record { sign = refl; plain = refl; value = refl }
bit_sign (suc (suc bit)) lt = absurd (omega arith)

lowest : (v : ℕ) → IsSignOf (v % 2)
lowest v = bit_sign (v % 2) (omega arith)

signs_are : (r v : ℕ) → list_all is_sign (signs_of r v) ≡ true
unfolding signs_of
signs_are zero v = refl
signs_are (suc r) v = ap₂ (λ a b. a && b) (lowest v).sign (signs_are r (v / 2))

signs_plain : (r v : ℕ) → list_all (λ b. nat_lt 32 b && nat_lt b 124) (signs_of r v) ≡ true
unfolding signs_of
signs_plain zero v = refl
signs_plain (suc r) v = ap₂ (λ a b. a && b) (lowest v).plain (signs_plain r (v / 2))

pub signs_word : (r v : ℕ) → 1 ≤ r → is_word (signs_of r v) ≡ true
signs_word r v some =
    let len = signs_length r v in
    let longer : (length (signs_of r v) == 0) ≡ false = grind (arith, nat_tests) in
    rw longer (signs_plain r v)

signs_again : (r v : ℕ) → v < 2 ^ r → signs_value (signs_of r v) ≡ v
unfolding signs_of
signs_again zero v small = let one : 2 ^ 0 ≡ 1 = refl in omega (arith, small, one)
signs_again (suc r) v small =
    let double : 2 ^ suc r ≡ 2 * 2 ^ r = pow-succ' 2 r in
    let rest = signs_again r (v / 2) (omega (arith, small, double)) in
    omega (arith, rest, (lowest v).value)

pub vector_again : (r v : ℕ) → v < 2 ^ r → vector_of r (signs_of r v) ≡ Some v
vector_again r v small = rw (eq-eqb (length (signs_of r v)) r (signs_length r v), signs_are r v)
    (ap (λ (n : ℕ). Some n) (signs_again r v small))
