-- The moves that the code makes are those of the definitions.
use Rattle.std.proofs.Common.{◌≡◌, ℕ, ◌≤◌, Bool, not, ◌&&◌, List, Option, inl, inr, sym, ap, ◌∙◌}
use Rattle.std.proofs.Common.{subst}
use Rattle.pg_vec_player.proofs.Common.{cases_Bool, FinSet, contains, remove, nat_cmp, minus}
use Rattle.pg_vec_player.proofs.Common.{either, Side, X, Y, Position, left_without, VecPlan}
use Rattle.pg_vec_player.proofs.Common.{VecMove, vec_move, lowest_unspanned, lowest_needed}
use Rattle.pg_vec_player.proofs.Common.{reply_vector, answer_vector, lost_vector, plan_without}
use Rattle.pg_vec_player.proofs.Common.{vector_spans, free-bound, found-bound}
use Rattle.std.specs.List.{find, range_with_len}

-- ---- what is found

pub found-x : (vs ws : List ℕ) (k n : ℕ) (set wide : ℕ → Bool) (others : FinSet nat_cmp)
    (r : Option ℕ)
    → vs ≡ ws
    → k ≡ n
    → set ≡ wide
    → r ≡ find (λ q. contains others q && not (vector_spans vs set q)) (range_with_len 0 k)
    → r ≡ lowest_unspanned (vector_spans ws) n wide others
found-x vs ws k n set wide others r is_vs is_k is_set is =
    subst (λ (w : List ℕ). r ≡ lowest_unspanned (vector_spans w) n wide others) is_vs
    (subst (λ (m : ℕ). r ≡ lowest_unspanned (vector_spans vs) m wide others) is_k
    (subst (λ (s : ℕ → Bool). r ≡ lowest_unspanned (vector_spans vs) k s others) is_set is))

pub found-y : (vs ws : List ℕ) (k n : ℕ) (set wide : ℕ → Bool) (x : ℕ) (others : FinSet nat_cmp)
    (r : Option ℕ)
    → vs ≡ ws
    → k ≡ n
    → set ≡ wide
    → r ≡ lowest_needed (vector_spans vs) k set x others
    → r ≡ lowest_needed (vector_spans ws) n wide x others
found-y vs ws k n set wide x others r is_vs is_k is_set is =
    subst (λ (w : List ℕ). r ≡ lowest_needed (vector_spans w) n wide x others) is_vs
    (subst (λ (m : ℕ). r ≡ lowest_needed (vector_spans vs) m wide x others) is_k
    (subst (λ (s : ℕ → Bool). r ≡ lowest_needed (vector_spans vs) k s x others) is_set is))

-- ---- bounds

module _ (spans : (ℕ → Bool) → ℕ → Bool) (n : ℕ) (p : Position) where
  reply-bound : (side : Side) (one another : FinSet nat_cmp) (x : ℕ)
      → reply_vector spans n side p one another x ≤ n
  reply-bound X one another x = found-bound (λ k.
      contains another k && not (spans (either (contains p.x) (contains (remove one x))) k)) n p
  reply-bound Y one another x = elim (cases_Bool (spans (left_without n p one) x)) [
    | inl on ↦ rw on
        (found-bound (λ d. contains another d && not (spans (minus (left_without n p one) d) x)) n
        p)
    | inr off ↦ rw off (free-bound n p)
  ]

  pub answer-bound : (side : Side) (plan : VecPlan) (x : ℕ)
      → answer_vector spans n side p plan x ≤ n
  answer-bound side plan x = elim (cases_Bool (contains plan.first x)) [
    | inl i ↦ rw i (reply-bound side plan.first plan.second x)
    | inr o ↦ elim (cases_Bool (contains plan.second x)) [
      | inl i ↦ rw (o, i) (reply-bound side plan.second plan.first x)
      | inr o2 ↦ rw (o, o2) (free-bound n p)
    ]
  ]

  pub vec-own : (side : Side) (plan : VecPlan) (f s : FinSet nat_cmp) (last : Option ℕ) (x v : ℕ)
      → x ≡ lost_vector n last
      → v ≡ answer_vector spans n side p plan x
      → f ≡ remove (remove plan.first x) v
      → s ≡ remove (remove plan.second x) v
      → vec_move spans n side p plan last ≡ record {
        vector = v;
        plan = record { first = f; second = s };
      }
  unfolding vec_move
  vec-own side plan f s last x v is_x is_v is_f is_s =
      ap (λ (w : ℕ). made (answer_vector spans n side p plan w)
      (plan_without plan w (answer_vector spans n side p plan w))) (sym is_x)
      ∙ (ap (λ (w : ℕ). made w (plan_without plan x w)) (sym is_v)
      ∙ (ap (λ (q : FinSet nat_cmp). made v (record {
        first = q;
        second = remove (remove plan.second x) v;
      })) (sym is_f)
      ∙ ap (λ (q : FinSet nat_cmp). made v (record { first = f; second = q })) (sym is_s)))
    where
      made : ℕ → VecPlan → VecMove
      made w q = record { vector = w; plan = q }
