-- The table of places grows by one copy.
use Rattle.std.proofs.Common.{◌≡◌, ℕ, suc, ◌+◌, ◌*◌, ◌/◌, ◌%◌, ◌<◌, Bool, true, false, cond, List}
use Rattle.std.proofs.Common.{[], ◌∷◌, ◌++◌, length, get_or, Some, slice_get, sym, ap, ◌∙◌, subst}
use Rattle.std.proofs.Common.{inl, inr, arith, add-one}
use Rattle.pg_unfold.proofs.Common.{FinSet, nat_cmp, cases_Bool, both_ways, length-append}
use Rattle.pg_unfold.proofs.Common.{slice_get-get_or, get_or_from_slice_get, Side, Node, ImageNode}
use Rattle.pg_unfold.proofs.Common.{Plain, Image, numbered, number_of, followed_by, GridMap}
use Rattle.pg_unfold.proofs.Common.{IsMarked}
use Rattle.pg_unfold.specs.Copies.{IsPlaced}
use Rattle.pg_unfold.specs.Marks.{copy_at, AreMet, copies_below, copies_of, ArePlacedBelow}
use Rattle.pg_unfold.proofs.Placing.{at_push, kept-at, kept-unmarked, kept-image, below-kept}
use Rattle.pg_unfold.proofs.Placing.{below-left, placed-plain, placed-image, marked-next}

module _ (nodes : List ImageNode) (marks : List Bool) (met : AreMet nodes marks)
    (places more : List ℕ) (key count : ℕ) (h : ArePlacedBelow nodes marks places key count) where
  -- with the place of the next copy
  extended : (added place next : ℕ)
      → more ≡ places ++ place ∷ []
      → added ≡ length (copies_below nodes marks (suc key))
      → next ≡ suc key
      → (IsMarked marks key → IsPlaced nodes (copies_of nodes marks) (copy_at key) place)
      → ArePlacedBelow nodes marks more next added
  extended added place next is count_is e here =
      subst (λ n. ArePlacedBelow nodes marks more n added) (sym e) (record {
        size =
            let size = ap length is ∙ length-append places (place ∷ []) in
            omega (arith, size, h.size);
        count_is = count_is;
        each = λ k p on at.
            elim (at_push places place k p (subst (λ ps. slice_get ps k ≡ Some p) is at)) [
              | inl was ↦ h.each k p on was
              | inr now ↦
                  let same : key ≡ k = sym h.size ∙ sym now.0 in
                  subst (λ j. IsPlaced nodes (copies_of nodes marks) (copy_at j) p) same
                  (subst (λ q. IsPlaced nodes (copies_of nodes marks) (copy_at key) q) (sym now.1)
                  (here (subst (IsMarked marks) (sym same) on)))
            ];
      })

  pub placed-more_plain : (node : Node)
      → slice_get nodes (key / 8) ≡ Some (Plain node)
      → key < length marks
      → (added : ℕ) → added ≡ count + cond (get_or marks key false) 1 0
      → more ≡ places ++ count ∷ []
      → ArePlacedBelow nodes marks more (key + 1) added
  placed-more_plain node at within added plus is = extended added count (key + 1) is counted
      (add-one key) (λ on. subst (λ p. IsPlaced nodes (copies_of nodes marks) (copy_at key) p)
      (sym h.count_is) (placed-plain nodes marks met key node on at))
    where
      read : slice_get marks key ≡ Some (get_or marks key false)
      read = slice_get-get_or marks key false within

      counted : added ≡ length (copies_below nodes marks (suc key))
      counted = elim (cases_Bool (get_or marks key false)) [
        | inl on ↦
            let longer = ap length
            (below-kept nodes marks key (kept-at nodes marks key node (read ∙ ap Some on) at))
            ∙ length-append (copies_below nodes marks key) (copy_at key ∷ []) in
            let one : ◌≡◌ {A = ℕ} (cond (get_or marks key false) 1 0) 1 = ap (λ b. cond b 1 0) on in
            omega (arith, plus, one, h.count_is, longer)
        | inr off ↦
            let same = ap length (below-left nodes marks key (kept-unmarked nodes marks key (λ on.
            both_ways _ off (get_or_from_slice_get marks key true false on)))) in
            let none : ◌≡◌ {A = ℕ} (cond (get_or marks key false) 1 0) 0 =
            ap (λ b. cond b 1 0) off in
            omega (arith, plus, none, h.count_is, same)
      ]

  pub placed-more_image : (x y : FinSet nat_cmp) (turn : Side) (left : ℕ) (m : GridMap) (child : ℕ)
      → slice_get nodes (key / 8) ≡ Some (Image x y turn left m child)
      → (place : ℕ)
      → slice_get places (8 * child + number_of (followed_by m (numbered (key % 8)))) ≡ Some place
      → more ≡ places ++ place ∷ []
      → ArePlacedBelow nodes marks more (key + 1) count
  placed-more_image x y turn left m child at place found is = extended count place (key + 1) is
      (h.count_is
      ∙ ap length
      (sym (below-left nodes marks key (kept-image nodes marks key x y turn left m child at))))
      (add-one key) (λ on. placed-image nodes marks met key place x y turn left m child on at
      (h.each (8 * child + number_of (followed_by m (numbered (key % 8)))) place
      (marked-next nodes marks met key place x y turn left m child on at) found))
