-- Marks of the positions that are known.
use Rattle.std.proofs.Common.{◌≡◌, ℕ, ◌<◌, Bool, true, false, cond, List, Option, Some, None}
use Rattle.std.proofs.Common.{length, set, refl, sym, ap, ◌∙◌, subst, inl, inr, arith, slice_get}
use Rattle.pg_fold.proofs.Common.{cases_Bool, cond-false, false≢true, length-set, get, same_some}
use Rattle.pg_fold.proofs.Common.{equal_positions, equal_positions-decides, Position}
use Rattle.pg_fold.specs.Codes.{IsKnown, place_of}
use Rattle.pg_fold.specs.declared.known.Known.{Known}
use Rattle.pg_unfold.proofs.Marking.{kept_set, marked_set}

-- what is not marked is not known
pub unmarked : (known : Known)
    → IsKnown known
    → (p : Position) (b : Bool)
    → slice_get known.marks.items (place_of p (length known.marks.items)) ≡ Some b
    → b ≡ false
    → get equal_positions known.places p ≡ None
unmarked known is p b at off = by (get equal_positions known.places p) refl
  where
    by : (found : Option ℕ) → get equal_positions known.places p ≡ found → found ≡ None
    by None e = refl
    by (Some j) e = absurd (false≢true (sym off ∙ same_some (sym at ∙ is.marked p j e)))

-- one position more
pub known-more : (old new : Known) (p : Position) (number : ℕ)
    → IsKnown old
    → new.marks.items ≡ set old.marks.items (place_of p (length old.marks.items)) true
    → place_of p (length old.marks.items) < length old.marks.items
    → ((q : Position) → get equal_positions new.places q
    ≡ cond (equal_positions p q) (Some number) (get equal_positions old.places q))
    → IsKnown new
known-more old new p number is marks within updates = record {
  some = let some = is.some in omega (arith, some, size);
  marked =
      λ q j at. subst (λ (n : ℕ). slice_get new.marks.items (place_of q n) ≡ Some true) (sym size)
      (subst (λ (ms : List Bool). slice_get ms (place_of q (length old.marks.items)) ≡ Some true)
      (sym marks) (elim (cases_Bool (equal_positions p q)) [
        | inl on ↦ subst (λ (r : Position).
            slice_get (set old.marks.items (place_of p (length old.marks.items)) true)
            (place_of r (length old.marks.items)) ≡ Some true) ((equal_positions-decides p q).0 on)
            (marked_set old.marks.items (place_of p (length old.marks.items)) within)
        | inr off ↦ kept_set old.marks.items (place_of p (length old.marks.items))
            (place_of q (length old.marks.items))
            (is.marked q j (sym (cond-false _ _ _ off) ∙ sym (updates q) ∙ at))
      ]));
}
  where
    size : length new.marks.items ≡ length old.marks.items
    size = ap length marks ∙ length-set old.marks.items (place_of p (length old.marks.items)) true
