-- Vectors that are needed, as they are found and as they are said.
use Rattle.std.proofs.Common.{◌≡◌, ℕ, Bool, true, false, not, ◌&&◌, List, Option, None, refl, sym}
use Rattle.std.proofs.Common.{◌∙◌}
use Rattle.pg_gf2.proofs.Common.{find, range_with_len, FinSet, contains, nat_cmp, minus}
use Rattle.pg_gf2.specs.Answers.{lowest_needed}
use Rattle.pg_gf2.specs.Vectors.{vector_spans}

pub needed-on : (vectors : List ℕ) (n : ℕ) (set : ℕ → Bool) (x : ℕ) (candidates : FinSet nat_cmp)
    (r : Option ℕ)
    → vector_spans vectors set x ≡ true
    → r ≡ find (λ d. contains candidates d && not (vector_spans vectors (minus set d) x))
    (range_with_len 0 n)
    → r ≡ lowest_needed (vector_spans vectors) n set x candidates
needed-on vectors n set x candidates r on is = is ∙ sym (rw on refl)

pub needed-off : (vectors : List ℕ) (n : ℕ) (set : ℕ → Bool) (x : ℕ) (candidates : FinSet nat_cmp)
    → vector_spans vectors set x ≡ false
    → None ≡ lowest_needed (vector_spans vectors) n set x candidates
needed-off vectors n set x candidates off = sym (rw off refl)
