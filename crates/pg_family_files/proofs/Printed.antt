-- The texts of games, in the pieces in which they are written.
use Rattle.std.proofs.Common.{◌≡◌, ℕ, suc, ◌+◌, ◌-◌, ◌<◌, ◌≤◌, ◌/◌, ◌%◌, List, [], ◌∷◌, ◌++◌, refl}
use Rattle.std.proofs.Common.{sym, ap, arith, append_assoc, ◌∙◌}
use Rattle.pg_family_files.proofs.Common.{flat_map, flat_map-append, append-nil, Bytes, spelled}
use Rattle.pg_family_files.specs.Print.{signs_of}

signs_first : (n v : ℕ) → signs_of (suc n) v ≡ (48 + v % 2) ∷ signs_of n (v / 2)
unfolding signs_of
signs_first n v = refl

no_signs : (v : ℕ) → signs_of 0 v ≡ []
unfolding signs_of
no_signs v = refl

-- one sign more
pub signs_next : (out new sign : Bytes) (rows row v : ℕ)
    → row < rows
    → new ≡ out ++ sign
    → sign ≡ (48 + v % 2) ∷ []
    → new ++ signs_of (rows - (row + 1)) (v / 2) ≡ out ++ signs_of (rows - row) v
signs_next out new sign rows row v lt is one =
    let left : rows - row ≡ suc (rows - (row + 1)) = omega arith in
    let step : signs_of (rows - row) v ≡ (48 + v % 2) ∷ signs_of (rows - (row + 1)) (v / 2) =
    ap (λ n. signs_of n v) left ∙ signs_first (rows - (row + 1)) v in
    rw (is, one, step) (append_assoc out ((48 + v % 2) ∷ []) (signs_of (rows - (row + 1)) (v / 2)))

-- no sign is left
pub signs_over : (out : Bytes) (rows row v : ℕ) → rows ≤ row → out ≡ out ++ signs_of (rows - row) v
signs_over out rows row v le =
    let none : rows - row ≡ 0 = omega arith in
    rw (none, no_signs v) (sym (append-nil out))

pub joined_vectors : (h r t : List Bytes) (vs last : List (List Bytes))
    → (((spelled h ++ spelled r) ++ spelled t) ++ flat_map spelled vs) ++ flat_map spelled last
    ≡ flat_map spelled (h ∷ r ∷ t ∷ (vs ++ last))
joined_vectors h r t vs last = simp (append_assoc, flat_map-append)
