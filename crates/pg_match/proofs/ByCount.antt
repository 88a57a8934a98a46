-- Where counting shows that wanted lines hold too few free points.
use Rattle.std.proofs.Common.{◌≡◌, ℕ, ◌+◌, ◌<◌, ◌≤◌, ◌/◌, ◌==◌, true, List, [], ◌∷◌, length, get_or}
use Rattle.std.proofs.Common.{take, eqb, refl, sym, ◌∙◌, subst, arith, eq-eqb}
use Rattle.pg_match.proofs.Common.{and_parts, eqb-true, get_or-take, length-take-le, All-take}
use Rattle.pg_match.proofs.Common.{All-contains_itself, All-cons, All-nil, Contains, list_any}
use Rattle.pg_match.proofs.Common.{filter, FinSet, contains, len, nat_cmp, count, count_le}
use Rattle.pg_match.proofs.Common.{list_any-one, member-from_any, Contains-filter}
use Rattle.pg_match.specs.Private.{line_at, is_covered, AreDifferent, IsShort}
use Rattle.pg_match.proofs.Counting.{count-le, count-len, count-members}

covered-few : (lines : List (List ℕ)) (free : FinSet nat_cmp) (family : List ℕ)
    → count (is_covered lines free family) 1024 ≤ count (contains free) 1024
covered-few lines free family =
    count_le (is_covered lines free family) (contains free) 1024 (λ v l on. (and_parts _ _ on).0)

-- more lines than pairs of free points
pub short-from_many : (lines : List (List ℕ)) (wanted : List ℕ) (free : FinSet nat_cmp) (most : ℕ)
    (family : List ℕ)
    → AreDifferent wanted
    → most < length wanted
    → most ≡ len free / 2
    → family ≡ take (most + 1) wanted
    → IsShort lines wanted free family
short-from_many lines wanted free most family different many most_is same =
    subst (IsShort lines wanted free) (sym same) (record {
      among = All-take (Contains wanted) (most + 1) wanted (All-contains_itself wanted);
      different = λ i j d before inside e.
          let all = length-take-le (most + 1) wanted (omega arith) in
          different i j d before (omega (arith, all))
          (sym (get_or-take (most + 1) wanted i d (omega (arith, all)))
          ∙ e
          ∙ get_or-take (most + 1) wanted j d (omega (arith, all)));
      few = omega (
        arith,
        length-take-le (most + 1) wanted (omega arith),
        covered-few lines free (take (most + 1) wanted),
        count-len free 1024,
        count-le (contains free) 1024,
        most_is,
      );
    })

one-different : (j : ℕ) → AreDifferent (j ∷ [])
one-different j = λ i k d before inside e. omega arith

-- a line with fewer than two free points
pub short-from_one : (lines : List (List ℕ)) (wanted : List ℕ) (free : FinSet nat_cmp) (j : ℕ)
    (family : List ℕ)
    → Contains wanted j
    → length (filter (contains free) (line_at lines j)) < 2
    → family ≡ j ∷ []
    → IsShort lines wanted free family
short-from_one lines wanted free j family c few same =
    subst (IsShort lines wanted free) (sym same) (record {
      among = All-cons (Contains wanted) j [] c (All-nil (Contains wanted));
      different = one-different j;
      few =
          let bound = count-members (is_covered lines free (j ∷ []))
          (filter (contains free) (line_at lines j)) 1024 on_line in
          omega (arith, bound, few);
    })
  where
    here : (v : ℕ)
        → list_any (λ i. list_any (λ u. eqb u v) (line_at lines i)) (j ∷ []) ≡ true
        → Contains (line_at lines j) v
    here v h =
        let found = member-from_any (λ i. list_any (λ u. eqb u v) (line_at lines i)) (j ∷ []) h in
        let number : j ≡ found.0 = one_member found.0 found.1 in
        let on = member-from_any (λ u. eqb u v) (line_at lines found.0) found.2 in
        subst (λ (i : ℕ). Contains (line_at lines i) v) (sym number)
        (subst (Contains (line_at lines found.0)) (eqb-true on.0 v on.2) on.1)
      where
        one_member : (i : ℕ) → Contains (j ∷ []) i → j ≡ i
        one_member i c =
            let first : c.0 ≡ 0 = omega (arith, c.1) in
            subst (λ (k : ℕ). get_or (j ∷ []) k i ≡ i) first c.2

    on_line : (v : ℕ)
        → is_covered lines free (j ∷ []) v ≡ true
        → list_any (λ x. x == v) (filter (contains free) (line_at lines j)) ≡ true
    on_line v h =
        let parts = and_parts (contains free v)
        (list_any (λ i. list_any (λ u. eqb u v) (line_at lines i)) (j ∷ [])) h in
        list_any-one (λ x. eqb x v) (filter (contains free) (line_at lines j)) v
        (Contains-filter (contains free) (line_at lines j) v (here v parts.1) parts.0)
        (eq-eqb v v refl)
