-- Replies within the limits of the format.
use Rattle.std.proofs.Common.{◌≡◌, ◌<◌, ◌≤◌, ◌+◌, ℕ, true, List, [], ◌∷◌, ◌++◌, map, refl, sym}
use Rattle.std.proofs.Common.{subst, ap, ◌∙◌, arith, nat_le}
use Rattle.std.proofs.lemmas.Bool.{and_from, and_parts, le-leb}
use Rattle.std.proofs.lemmas.List.{map_push}
use Rattle.std.proofs.lemmas.List.Elements.{All-head, All-push, All-tail, All-weaker}
use Rattle.pg_zone_proofs.specs.Prelude.{All, IsReply, Reply, ascend_from}

-- replies to points that ascend, each below v
pub record AreRepliesBelow (v : ℕ) (replies : List Reply) : Type 0 where
  pub ascend : ascend_from 0 (map (λ (q : Reply). q.point) replies) ≡ true
  pub below : All (λ (p : ℕ). p < v) (map (λ (q : Reply). q.point) replies)
  pub numbers : All IsReply replies

-- numbers that ascend, and one more beyond them
ascend-push : (n v : ℕ) (ps : List ℕ)
    → n ≤ v
    → ascend_from n ps ≡ true
    → All (λ (p : ℕ). p < v) ps
    → ascend_from n (ps ++ v ∷ []) ≡ true
ascend-push n v [] le up below = and_from (nat_le n v) true (le-leb n v le) refl
ascend-push n v (p ∷ ps) le up below =
    let parts = and_parts (nat_le n p) (ascend_from (p + 1) ps) up in
    let head = All-head (λ (q : ℕ). q < v) p ps below in
    let tail = All-tail (λ (q : ℕ). q < v) p ps below in
    and_from (nat_le n p) (ascend_from (p + 1) (ps ++ v ∷ [])) parts.0
    (ascend-push (p + 1) v ps (omega (arith, head)) parts.1 tail)

pub replied-with : (v : ℕ) (old new : List Reply) (r : Reply)
    → r.point ≡ v
    → IsReply r
    → new ≡ old ++ r ∷ []
    → AreRepliesBelow v old
    → AreRepliesBelow (v + 1) new
replied-with v old new r at fit pushed h =
    let points = map (λ (q : Reply). q.point) old in
    let more : map (λ (q : Reply). q.point) (old ++ r ∷ []) ≡ points ++ v ∷ [] =
    map_push (λ (q : Reply). q.point) old r ∙ ap (λ (u : ℕ). points ++ u ∷ []) at in
    let P : List ℕ → Type 0 = λ ps. ascend_from 0 ps ≡ true in
    let Q : List ℕ → Type 0 = λ ps. All (λ (p : ℕ). p < v + 1) ps in
    subst (AreRepliesBelow (v + 1)) (sym pushed) (record {
      ascend = subst P (sym more) (ascend-push 0 v points (omega arith) h.ascend h.below);
      below = subst Q (sym more) (All-push (λ (p : ℕ). p < v + 1) points v
          (All-weaker (λ (p : ℕ). p < v) (λ (p : ℕ). p < v + 1) (λ p lt. omega (arith, lt))
          points h.below)
          (omega arith));
      numbers = All-push IsReply old r h.numbers fit;
    })

pub replied-without : (v : ℕ) (old new : List Reply)
    → new ≡ old
    → AreRepliesBelow v old
    → AreRepliesBelow (v + 1) new
replied-without v old new same h = subst (AreRepliesBelow (v + 1)) (sym same) (record {
  ascend = h.ascend;
  below = All-weaker (λ (p : ℕ). p < v) (λ (p : ℕ). p < v + 1) (λ p lt. omega (arith, lt))
      (map (λ (q : Reply). q.point) old) h.below;
  numbers = h.numbers;
})
