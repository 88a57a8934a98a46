-- The members of a set that are below a number, a number at a time.
use Rattle.std.proofs.Common.{◌≡◌, ℕ, ◌<◌, ◌+◌, Bool, true, false, ltb, arith}
use Rattle.pg_base.proofs.Common.{fun_ext, both_ways, and_parts, and_from, ltb-true, lt-ltb}
use Rattle.pg_base.specs.Sets.{plus, below, IsWithin}
use Rattle.pg_base.specs.PointLemmas.{same_bit}
use Rattle.pg_base.proofs.SetLemmas.{sets}

pub below_parts : (a : ℕ → Bool) (n z : ℕ) → below a n z ≡ true → (a z ≡ true) × (z < n)
unfolding below
below_parts a n z h = let p = and_parts (a z) (ltb z n) h in (p.0, ltb-true z n p.1)

pub below_from : (a : ℕ → Bool) (n z : ℕ) → a z ≡ true → z < n → below a n z ≡ true
unfolding below
below_from a n z h l = and_from (a z) (ltb z n) h (lt-ltb z n l)

-- sets with the same members are equal
pub same_sets : (a b : ℕ → Bool) → IsWithin a b → IsWithin b a → a ≡ b
same_sets a b v w = fun_ext (λ z. same_bit (a z) (b z) (v z) (w z))

pub ruleset cuts = (sets, below_parts, below_from)

pub below_none : (a b : ℕ → Bool) (n : ℕ) → n ≡ 0 → ((z : ℕ) → b z ≡ false) → b ≡ below a n
below_none a b n e none = same_sets _ _ (λ z h. absurd (both_ways _ (none z) h))
    (λ z h. let p : (a z ≡ true) × (z < n) = below_parts a n z h in absurd (omega arith))

pub below_in : (a : ℕ → Bool) (n : ℕ) → a n ≡ true → plus (below a n) n ≡ below a (n + 1)
below_in a n e = same_sets _ _ (λ z h. grind (arith, cuts)) (λ z h. grind (arith, cuts))

pub below_out : (a : ℕ → Bool) (n : ℕ) → a n ≡ false → below a n ≡ below a (n + 1)
below_out a n e = same_sets _ _ (λ z h. grind (arith, cuts)) (λ z h. grind (arith, cuts))
