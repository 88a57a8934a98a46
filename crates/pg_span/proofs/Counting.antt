-- Counting different numbers of vertices, and edges between them.
use Rattle.std.proofs.Common.{◌≡◌, ℕ, ◌<◌, ◌+◌, suc, Bool, true, false, ◌&&◌, ◌||◌, ◌==◌, refl, inl}
use Rattle.std.proofs.Common.{inr, ap, ◌∙◌, subst, slice_index, arith, zero}
use Rattle.std.specs.Prelude.{◌↔◌, IsTrue, List, length}
use Rattle.pg_span.proofs.Common.{cases_Bool, eqb-true, false_from_ne_true, contains, count, one_if}
use Rattle.pg_span.proofs.Common.{plus, count_same, count_plus, edge_count, first_end_of}
use Rattle.pg_span.proofs.Common.{second_end_of, is_free, Position, crosses, crossing, image}
use Rattle.pg_span.proofs.Common.{image-at}
use Rattle.pg_span.specs.Conditions.{AreFew}
use Rattle.pg_span.specs.Valid.{ArePartsOfGame}
use Rattle.pg_span.specs.declared.cert.TheConstants.{PART_NUMBERS}
use Rattle.pg_span.specs.declared.game.SpanGame.{SpanGame}

-- the next number, as loops say it
next : (P : ℕ → Type 0) (n : ℕ) → P (suc n) → P (n + 1)
next P n p = let at : suc n ≡ n + 1 = omega arith in subst P at p

-- one number more, which counts or doesn't
pub count-more : (p : ℕ → Bool) (n : ℕ) → p n ≡ true → count p (n + 1) ≡ count p n + 1
unfolding count
count-more p n on = next (λ m. count p m ≡ count p n + 1) n (here p n on)
  where
    here : (p : ℕ → Bool) (n : ℕ) → p n ≡ true → count p (suc n) ≡ count p n + 1
    here p n on = ap (λ b. one_if b + count p n) on ∙ omega arith

pub count-as_before : (p : ℕ → Bool) (n : ℕ) → p n ≡ false → count p (n + 1) ≡ count p n
unfolding count
count-as_before p n off = next (λ m. count p m ≡ count p n) n (here p n off)
  where
    here : (p : ℕ → Bool) (n : ℕ) → p n ≡ false → count p (suc n) ≡ count p n
    here p n off = ap (λ b. one_if b + count p n) off ∙ omega arith

-- none below 0
pub count-none : (p : ℕ → Bool) → count p 0 ≡ 0
unfolding count
count-none p = refl

-- with its next number the list has one more, where that is new
pub image-more : (label : ℕ → ℕ) (n bound : ℕ)
    → label n < bound
    → image label n (label n) ≡ false
    → count (image label (suc n)) bound ≡ count (image label n) bound + 1
unfolding image plus
image-more label n bound small fresh = count_same (image label (suc n))
    (plus (image label n) (label n)) bound (λ z l. either_way (label n == z) (image label n z))
    ∙ count_plus (image label n) (label n) bound fresh small
  where
    either_way : (a b : Bool) → (a || b) ≡ (b || a)
    either_way true true = refl
    either_way true false = refl
    either_way false true = refl
    either_way false false = refl

-- and else as many as before
pub image-same : (label : ℕ → ℕ) (n bound : ℕ)
    → image label n (label n) ≡ true
    → count (image label (suc n)) bound ≡ count (image label n) bound
unfolding image
image-same label n bound old = count_same (image label (suc n)) (image label n) bound
    (λ z l. elim (cases_Bool (label n == z)) [
      | inl is ↦
          let here : image label n z ≡ true =
          subst (λ (v : ℕ). image label n v ≡ true) (eqb-true (label n) z is) old in
          rw (is, here) refl
      | inr isnt ↦ rw isnt refl
    ])

-- no number stands before the first
pub image-none : (label : ℕ → ℕ) (v : ℕ) → image label 0 v ≡ false
unfolding image
image-none label v = refl

pub count-image_none : (label : ℕ → ℕ) (bound : ℕ) → count (image label 0) bound ≡ 0
unfolding count image
count-image_none label zero = refl
count-image_none label (suc bound) = let rest = count-image_none label bound in omega (arith, rest)

-- the last number isn't that one, so those before it tell
pub image-last : (label : ℕ → ℕ) (n v : ℕ)
    → (label n ≡ v → ⊥)
    → image label n v ≡ false
    → image label (n + 1) v ≡ false
unfolding image
image-last label n v other before = next (λ m. image label m v ≡ false) n
    (neither (label n == v) (image label n v)
    (false_from_ne_true _ (λ is. other (eqb-true (label n) v is))) before)
  where
    neither : (a b : Bool) → a ≡ false → b ≡ false → (a || b) ≡ false
    neither a b is_a is_b = rw (is_a, is_b) refl

-- a number of the list is one of its first k
pub image-found : (label : ℕ → ℕ) (n k v : ℕ) → k < n → label k ≡ v → image label n v ≡ true
image-found label n k v low is =
    subst (λ (w : ℕ). image label n w ≡ true) is (image-at label n k low)

-- as loops say it
pub image-more_at : (label : ℕ → ℕ) (n bound : ℕ)
    → label n < bound
    → image label n (label n) ≡ false
    → count (image label (n + 1)) bound ≡ count (image label n) bound + 1
image-more_at label n bound low fresh =
    next (λ m. count (image label m) bound ≡ count (image label n) bound + 1) n
    (image-more label n bound low fresh)

pub image-same_at : (label : ℕ → ℕ) (n bound : ℕ)
    → image label n (label n) ≡ true
    → count (image label (n + 1)) bound ≡ count (image label n) bound
image-same_at label n bound old =
    next (λ m. count (image label m) bound ≡ count (image label n) bound) n
    (image-same label n bound old)

-- ---- parts

module _ (g : SpanGame) (p : Position) (numbers : List ℕ) where
  -- how many edges of the set have ends with different numbers
  abbrev crossed : (ℕ → Bool) → ℕ
  crossed set = crossing (first_end_of g.graph) (second_end_of g.graph) (edge_count g.graph)
      (slice_index numbers) set

  -- sets of the same edges are crossed as often
  pub crossed-same : (s t : ℕ → Bool)
      → ((f : ℕ) → f < edge_count g.graph → s f ≡ t f)
      → crossed s ≡ crossed t
  crossed-same s t same = count_same _ _ (edge_count g.graph) (λ z l.
      ap (λ b. b && crosses (first_end_of g.graph) (second_end_of g.graph) (slice_index numbers) z)
      (same z l))

  -- the condition on parts by its three counts
  pub parts-told : (taken free parts : ℕ) (r : Bool)
      → length numbers ≡ g.graph.vertices
      → taken ≡ crossed (contains p.x)
      → free ≡ crossed (is_free p)
      → parts ≡ count (image (slice_index numbers) (length numbers)) PART_NUMBERS
      → (IsTrue r ↔ AreFew taken free parts p.turn)
      → IsTrue r ↔ ArePartsOfGame g p numbers
  parts-told taken free parts r size is_taken is_free is_parts iff =
      let all : parts ≡ count (image (slice_index numbers) g.graph.vertices) PART_NUMBERS =
      is_parts ∙ ap (λ n. count (image (slice_index numbers) n) PART_NUMBERS) size in (
        (λ on.
            let few = iff.0 on in (
              size,
              record {
                few_taken = rw (← is_taken, ← all) few.0;
                few_free = rw (← is_taken, ← is_free, ← all) few.1;
              },
            )),
        (λ h. iff.1 (rw (is_taken, all) h.1.few_taken, rw (is_taken, is_free, all) h.1.few_free)),
      )
