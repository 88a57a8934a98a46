-- Replies to free points, one after the other.
use Rattle.std.proofs.Common.{◌≡◌, ◌≤◌, ◌+◌, ℕ, zero, suc, Bool, true, false, List, [], ◌∷◌}
use Rattle.std.proofs.Common.{◌++◌, map, cond, ap, refl, sym, subst, ◌∙◌, inl, inr, arith, filter}
use Rattle.std.proofs.Common.{nat_le}
use Rattle.std.proofs.lemmas.Bool.{and_from, cases_Bool, le-leb}
use Rattle.std.proofs.lemmas.List.{append-nil, map-id, map_push}
use Rattle.std.proofs.lemmas.List.Elements.{All-push}
use Rattle.std.proofs.lemmas.List.FromFn.{filter_of_map_range_with_len_more}
use Rattle.std.specs.List.{range_with_len}
use Rattle.pg_text.specs.Text.{ascend_from}
use Rattle.pg_dfpn.specs.Prelude.{All, IsReply, Position, Reply, is_free}

-- so far there is a reply to each free point
pub record AreRepliesBelow (p : Position) (v : ℕ) (replies : List Reply) : Type 0 where
  pub points : map (λ (r : Reply). r.point) replies ≡ filter (is_free p) (range_with_len 0 v)
  pub numbers : All IsReply replies

passing-more : (t : ℕ → Bool) (v : ℕ)
    → filter t (range_with_len 0 (v + 1)) ≡ filter t (range_with_len 0 v) ++ cond (t v) (v ∷ []) []
passing-more t v = ap (filter t) (sym (map-id (range_with_len 0 (v + 1))))
    ∙ filter_of_map_range_with_len_more t (λ (u : ℕ). u) 0 v v (omega arith)
    ∙ ap (λ (vs : List ℕ). filter t vs ++ cond (t v) (v ∷ []) []) (map-id (range_with_len 0 v))

pub replied-with : (p : Position) (v : ℕ) (old new : List Reply) (r : Reply)
    → is_free p v ≡ true
    → r.point ≡ v
    → IsReply r
    → new ≡ old ++ r ∷ []
    → AreRepliesBelow p v old
    → AreRepliesBelow p (v + 1) new
replied-with p v old new r on at fit pushed h =
    subst (AreRepliesBelow p (v + 1)) (sym pushed) (record {
      points = map_push (λ (q : Reply). q.point) old r
          ∙ ap (λ (u : ℕ). map (λ (q : Reply). q.point) old ++ u ∷ []) at
          ∙ ap (λ (vs : List ℕ). vs ++ v ∷ []) h.points
          ∙ sym (passing-more (is_free p) v
          ∙ ap (λ (b : Bool). filter (is_free p) (range_with_len 0 v) ++ cond b (v ∷ []) []) on);
      numbers = All-push IsReply old r h.numbers fit;
    })

pub replied-without : (p : Position) (v : ℕ) (old new : List Reply)
    → is_free p v ≡ false
    → new ≡ old
    → AreRepliesBelow p v old
    → AreRepliesBelow p (v + 1) new
replied-without p v old new off same h = subst (AreRepliesBelow p (v + 1)) (sym same) (record {
  points = h.points
      ∙ sym (passing-more (is_free p) v
      ∙ ap (λ (b : Bool). filter (is_free p) (range_with_len 0 v) ++ cond b (v ∷ []) []) off
      ∙ append-nil (filter (is_free p) (range_with_len 0 v)));
  numbers = h.numbers;
})

-- the numbers of a filtered range ascend
pub ascend-filter : (t : ℕ → Bool) (m k n : ℕ)
    → m ≤ k
    → ascend_from m (filter t (range_with_len k n)) ≡ true
ascend-filter t m k zero le = refl
ascend-filter t m k (suc n) le = elim (cases_Bool (t k)) [
  | inl here ↦ rw here
      (and_from (nat_le m k) _ (le-leb m k le) (ascend-filter t (k + 1) (k + 1) n (omega arith)))
  | inr off ↦ rw off (ascend-filter t m (k + 1) n (omega arith))
]
