-- Sets of points that are equal, and what is hashed of one.
use Rattle.std.specs.Prelude.{◌≡◌, ℕ, Bool, true, ◌&&◌, List, ◌∷◌, length}
use Rattle.std.proofs.Common.{sym, ap, ◌∙◌, subst, inl, inr}
use Rattle.pg_base.specs.Prelude.{flat_map, nat_cmp, IsEquivalence, IsPartialEquivalence, decided}
use Rattle.pg_base.specs.Prelude.{partial_equiv_from_equiv, nat_cmp_total}
use Rattle.std.specs.Bool.{Decides}
use Rattle.std.specs.Hash.{le_bytes}
use Rattle.std.specs.Hash as fed
use Rattle.std.specs.FinSet.{FinSet, contains, is_subset, is_subset-contains, contains-is_subset}
use Rattle.std.proofs.lemmas.Bool.{and_parts, and_from, cases_Bool, false_from_ne_true, false≢true}
use Rattle.pg_base.specs.Words.{words_of}
use Rattle.pg_base.specs.WordLemmas.{same_points}

-- whether each has the other's points
unfoldable pub equal : FinSet nat_cmp → FinSet nat_cmp → Bool
equal s t = is_subset s t && is_subset t s

-- tests that follow from one another are equal
pub same_bit : (a b : Bool) → (a ≡ true → b ≡ true) → (b ≡ true → a ≡ true) → a ≡ b
same_bit a b f g = elim (cases_Bool a) [
  | inl on ↦ on ∙ sym (f on)
  | inr off ↦ off ∙ sym (false_from_ne_true b (λ on. false≢true (sym off ∙ g on)))
]

pub equal-decides : (s t : FinSet nat_cmp) → Decides (equal s t) (s ≡ t)
unfolding equal
equal-decides s t = (
  λ both.
      let parts = and_parts _ _ both in
      same_points s t (λ q. same_bit _ _ (is_subset-contains nat_cmp_total s t parts.0 q)
      (is_subset-contains nat_cmp_total t s parts.1 q)),
  λ same. and_from _ _
      (contains-is_subset nat_cmp_total s t
      (λ q h. subst (λ (u : FinSet nat_cmp). contains u q ≡ true) same h))
      (contains-is_subset nat_cmp_total t s
      (λ q h. subst (λ (u : FinSet nat_cmp). contains u q ≡ true) (sym same) h)),
)

pub equal-equivalence : IsEquivalence equal
equal-equivalence = decided equal equal-decides

pub equal-partial : IsPartialEquivalence equal
equal-partial = partial_equiv_from_equiv equal-equivalence

-- the number of words and their bytes
abbrev pub words_hash_input : List ℕ → List (List ℕ)
words_hash_input ws = le_bytes 8 (length ws) ∷ flat_map fed.u64 ws

abbrev pub hash_input : FinSet nat_cmp → List (List ℕ)
hash_input s = words_hash_input (words_of s)

pub hash_input-respects : (s t : FinSet nat_cmp) → equal s t ≡ true → hash_input s ≡ hash_input t
hash_input-respects s t h = ap hash_input ((equal-decides s t).0 h)
