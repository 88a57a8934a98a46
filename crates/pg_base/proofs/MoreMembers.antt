-- Sets that are filled point by point: from a list, or with all points below a number.
use Rattle.std.proofs.Common.{◌≡◌, ℕ, ◌+◌, ◌<◌, ◌≤◌, ◌||◌, ◌==◌, eqb, ltb, List, [], ◌∷◌, length}
use Rattle.std.proofs.Common.{take, get_or, sym, ap, ap₂, ◌∙◌, inl, inr, arith, eq-eqb, ne_eqb}
use Rattle.pg_base.proofs.Common.{cases_eq, le-ltb, nat_tests, take_more, take_all, list_any}
use Rattle.pg_base.proofs.Common.{FinSet, contains, insert, empty, from_list, from_list_push}
use Rattle.pg_base.proofs.Common.{contains-empty, nat_cmp-IsAntisymmetric, nat_cmp, nat_cmp_total}
use Rattle.pg_base.specs.WordLemmas.{in_insert}

-- the set of one more point of the list
pub from_list-more : (ps : List ℕ) (i : ℕ) (s t : FinSet nat_cmp)
    → i < length ps
    → s ≡ from_list (take i ps)
    → t ≡ insert s (get_or ps i 0)
    → t ≡ from_list (take (i + 1) ps)
from_list-more ps i s t lt e f = f
    ∙ ap (λ (u : FinSet nat_cmp). insert u (get_or ps i 0)) e
    ∙ sym (from_list_push nat_cmp_total nat_cmp-IsAntisymmetric (take i ps) (get_or ps i 0))
    ∙ sym (ap (λ (l : List ℕ). from_list {R = nat_cmp} l) (take_more ps i 0 lt))

-- all of them
pub from_list-all : (ps : List ℕ) (i : ℕ) (s : FinSet nat_cmp)
    → length ps ≤ i
    → s ≡ from_list (take i ps)
    → s ≡ from_list ps
from_list-all ps i s h is = is ∙ ap (λ (l : List ℕ). from_list {R = nat_cmp} l) (take_all i ps h)

eqb-turned : (a b : ℕ) → eqb a b ≡ eqb b a
eqb-turned a b = elim (cases_eq a b) [
  | inl e ↦ eq-eqb a b e ∙ sym (eq-eqb b a (sym e))
  | inr ne ↦ ne_eqb a b ne ∙ sym (ne_eqb b a (λ e. ne (sym e)))
]

-- what is in the set of a list's points
pub in_from_list : (ps : List ℕ) (v : ℕ)
    → contains (from_list {R = nat_cmp} ps) v ≡ list_any (λ q. q == v) ps
in_from_list [] v = contains-empty nat_cmp v
in_from_list (p ∷ ps) v = in_insert (from_list {R = nat_cmp} ps) p v
    ∙ ap₂ (λ a b. a || b) (eqb-turned v p) (in_from_list ps v)

pub all_below-none : (v : ℕ) → contains {R = nat_cmp} empty v ≡ ltb v 0
all_below-none v = contains-empty nat_cmp v ∙ sym (le-ltb v 0 (omega arith))

pub all_below-more : (s : FinSet nat_cmp) (n v : ℕ)
    → contains s v ≡ ltb v n
    → contains (insert s n) v ≡ ltb v (n + 1)
all_below-more s n v before = in_insert s n v
    ∙ ap (λ b. eqb v n || b) before
    ∙ elim (cases_eq v n) as (λ _. (eqb v n || ltb v n) ≡ ltb v (n + 1)) [
      | inl e ↦ rw e (grind (arith, nat_tests))
      | inr ne ↦ grind (arith, nat_tests)
    ]
