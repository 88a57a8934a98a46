-- Words of plain signs, by a test.
use Rattle.std.proofs.Common.{◌≡◌, ℕ, Bool, true, ◌&&◌, [], ◌∷◌}
use Rattle.std.specs.Prelude.{nat_lt}
use Rattle.pg_plan.proofs.Common.{Bytes, IsPlain, IsWord, and_parts, ltb-true}

abbrev is_plain : ℕ → Bool
is_plain b = nat_lt 32 b && nat_lt b 124

abbrev pub is_word : Bytes → Bool
is_word [] = true
is_word (b ∷ bs) = is_plain b && is_word bs

plain_by : (b : ℕ) → is_plain b ≡ true → IsPlain b
plain_by b e =
    let p = and_parts (nat_lt 32 b) (nat_lt b 124) e in
    (ltb-true 32 b p.0, ltb-true b 124 p.1)

pub word_by : (w : Bytes) → is_word w ≡ true → IsWord w
word_by [] e = tt
word_by (b ∷ bs) e =
    let p = and_parts (is_plain b) (is_word bs) e in
    (plain_by b p.0, word_by bs p.1)
