-- The answers by trees and by cuts are free vectors, and the sets stand after them.
use Rattle.std.proofs.Common.{◌≡◌, ℕ, suc, Bool, true, false, not, ◌&&◌, Option, inl, inr, sym}
use Rattle.std.proofs.Common.{refl, ap, ◌∙◌, subst, arith}
use Rattle.std.specs.Prelude.{unwrap_or}
use Rattle.pg_vec_player.proofs.Common.{cases_Bool, both_ways, true_from_ne_false, and_parts}
use Rattle.pg_vec_player.proofs.Common.{and_from, not-true, not_from_false, FinSet, contains}
use Rattle.pg_vec_player.proofs.Common.{remove, nat_cmp, minus, either, outside, Side, X, Y}
use Rattle.pg_vec_player.proofs.Common.{below_parts, contains-remove_minus, IsSpan, Position}
use Rattle.pg_vec_player.proofs.Common.{kept, VecPlan, lowest_free, reply_vector}
use Rattle.pg_vec_player.proofs.Common.{answer_vector, find_below-cases, free-free}
use Rattle.pg_graph.proofs.Trees.{IsTrees-dropped, IsTrees-answered, spans_none}
use Rattle.pg_graph.proofs.Cuts.{IsCuts-dropped, IsCuts-answered, find_parting}
use Rattle.pg_switch.proofs.LostElement.{IsFreeBelow, AreLeft, AreDue, IsAnswer, IsReply, StandBy}
use Rattle.pg_switch.proofs.LostElement.{held_by, grown_by, IsStanding-by, answer-kept}

module _ (spans : (ℕ → Bool) → ℕ → Bool) (law : IsSpan spans) (n : ℕ) (p : Position) (x z : ℕ)
    (fz : IsFreeBelow n p z) where
  -- the reply to the loss of x, a member of the one set, makes good for it
  replies : (side : Side) (one another : FinSet nat_cmp)
      → StandBy spans n side (held_by n side p) (contains one) (contains another)
      → AreLeft n p one another x
      → contains one x ≡ true
      → IsReply n (grown_by side) (StandBy spans n side) p (held_by n side p) x one another
      (reply_vector spans n side p one another x)
  replies X one another d left ax =
      let s = contains p.x in
      let not2 : contains another x ≡ false = d.apart x ax in
      let set = either s (contains (remove one x)) in
      let is_set : set ≡ either s (minus (contains one) x) =
      ap (λ (a : ℕ → Bool). either s a) (contains-remove_minus one x) in
      elim (find_below-cases (λ k. contains another k && not (spans set k)) n) [
        | inl found ↦
            let y = found.number in
            let q : (contains another y ≡ true) × (not (spans set y) ≡ true) =
            and_parts (contains another y) (not (spans set y)) found.passes in
            let y_is : reply_vector spans n X p one another x ≡ y =
            ap (λ (r : Option ℕ). unwrap_or r (lowest_free n p)) found.is in
            let off : spans (either s (minus (contains one) x)) y ≡ false =
            ap (λ (a : ℕ → Bool). spans a y) (sym is_set) ∙ not-true _ q.1 in
            subst
            (λ (w : ℕ). IsReply n (grown_by X) (StandBy spans n X) p s x one another w) (sym y_is)
            (inl (
              q.0,
              IsTrees-answered spans law n s (contains one) (contains another) x y d ax q.0 off,
            ))
        | inr none ↦
            let y_is : reply_vector spans n X p one another x ≡ lowest_free n p =
            ap (λ (r : Option ℕ). unwrap_or r (lowest_free n p)) none.1 in
            let spanned = spans_none spans law n s (contains one) (contains another) x d ax
            (λ v k. ap (λ (a : ℕ → Bool). spans a v) (sym is_set)
            ∙ true_from_ne_false _ (λ o. both_ways _ (none.0 v (left.second v k
            (λ e. both_ways _ not2 (subst (λ (w : ℕ). contains another w ≡ true) e k))).0)
            (and_from (contains another v) (not (spans set v)) k (not_from_false _ o)))) in
            subst
            (λ (w : ℕ). IsReply n (grown_by X) (StandBy spans n X) p s x one another w) (sym y_is)
            (inr (
              free-free n p z fz.0 fz.1,
              IsTrees-dropped spans law n s (contains one) (contains another) x d spanned,
            ))
      ]
  replies Y one another d left dx =
      let r = kept (suc n) p in
      let wide = outside r (contains one) in
      let not2 : contains another x ≡ false = d.apart x dx in
      let free2 : (y : ℕ) → contains another y ≡ true → IsFreeBelow n p y = λ y k. left.second y k
      (λ e. both_ways _ not2 (subst (λ (w : ℕ). contains another w ≡ true) e k)) in
      elim (cases_Bool (spans wide x)) [
        | inl on ↦ elim
            (find_below-cases (λ y. contains another y && not (spans (minus wide y) x)) n) [
              | inl found ↦
                  let y = found.number in
                  let q : (contains another y ≡ true) × (not (spans (minus wide y) x) ≡ true) =
                  and_parts (contains another y) (not (spans (minus wide y) x)) found.passes in
                  let y_is : reply_vector spans n Y p one another x ≡ y =
                  rw on (ap (λ (o : Option ℕ). unwrap_or o (lowest_free n p)) found.is) in
                  let low = (free2 y q.0).0 in
                  subst
                  (λ (w : ℕ). IsReply n (grown_by Y) (StandBy spans n Y) p r x one another w)
                  (sym y_is)
                  (inl (
                    q.0,
                    IsCuts-answered spans law n r (contains one) (contains another) x y d dx q.0
                        (λ e. absurd (omega (arith, low, e))) (not-true _ q.1),
                  ))
              | inr none ↦
                  let y = find_parting spans law n r (contains one) (contains another) x (suc n)
                  (λ w k. (below_parts (λ f. not (contains p.y f)) (suc n) w k).1) d dx on in
                  absurd
                  (both_ways _ (none.0 y.0 (free2 y.0 y.1).0)
                  (and_from (contains another y.0) (not (spans (minus wide y.0) x)) y.1
                  (not_from_false _ y.2)))
            ]
        | inr off ↦
            let y_is : reply_vector spans n Y p one another x ≡ lowest_free n p = rw off refl in
            subst (λ (w : ℕ). IsReply n (grown_by Y) (StandBy spans n Y) p r x one another w)
            (sym y_is)
            (inr (
              free-free n p z fz.0 fz.1,
              IsCuts-dropped spans law n r (contains one) (contains another) x d off,
            ))
      ]

  -- the answer keeps the sets
  pub vec-kept : (side : Side) (plan : VecPlan)
      → AreDue spans n side p plan.first plan.second x
      → IsAnswer n (grown_by side) (StandBy spans n side) p (held_by n side p) x plan.first
      plan.second (answer_vector spans n side p plan x)
  vec-kept side plan d = answer-kept n (grown_by side) (StandBy spans n side) p (held_by n side p) x
      (IsStanding-by spans law n side) (λ one another. reply_vector spans n side p one another x)
      (lowest_free n p) plan.first plan.second (replies side) (free-free n p z fz.0 fz.1) d.sets
      d.left
