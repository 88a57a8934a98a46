-- Marks that are added to a table.
use Rattle.std.proofs.Common.{◌≡◌, ◌⊎◌, ℕ, zero, suc, ◌+◌, ◌*◌, ◌/◌, ◌%◌, ◌<◌, Bool, true, List, []}
use Rattle.std.proofs.Common.{◌∷◌, ◌++◌, length, set, refl, sym, ap, subst, inl, inr, arith}
use Rattle.pg_unfold.proofs.Common.{Contains, Contains-append_left, Contains-push}
use Rattle.pg_unfold.proofs.Common.{Contains-push_cases, IsMarked}
use Rattle.pg_unfold.specs.Marks.{AreAdded}
use Rattle.pg_unfold.proofs.Keys.{key-node, key-map}

-- a further mark leaves those that are there
pub kept_set : (xs : List Bool) (at k : ℕ) → IsMarked xs k → IsMarked (set xs at true) k
kept_set [] at k h = h
kept_set (x ∷ xs) zero zero h = refl
kept_set (x ∷ xs) zero (suc k) h = h
kept_set (x ∷ xs) (suc at) zero h = h
kept_set (x ∷ xs) (suc at) (suc k) h = kept_set xs at k h

pub marked_set : (xs : List Bool) (at : ℕ) → at < length xs → IsMarked (set xs at true) at
marked_set [] at lt = absurd (omega arith)
marked_set (x ∷ xs) zero lt = refl
marked_set (x ∷ xs) (suc at) lt = marked_set xs at (omega arith)

pub from_set : (xs : List Bool) (at k : ℕ) → IsMarked (set xs at true) k → IsMarked xs k ⊎ (k ≡ at)
from_set [] at k h = inl h
from_set (x ∷ xs) zero zero h = inr refl
from_set (x ∷ xs) zero (suc k) h = inl h
from_set (x ∷ xs) (suc at) zero h = inl h
from_set (x ∷ xs) (suc at) (suc k) h = elim (from_set xs at k h) [
  | inl old ↦ inl old
  | inr e ↦ inr (ap suc e)
]

-- nothing is added
pub AreAdded-none : (P : ℕ → Type 0) (marks : List Bool)
    → ((key : ℕ) → P key → ⊥)
    → AreAdded P marks marks
AreAdded-none P marks none = record {
  kept = λ key h. h;
  put = λ key p. absurd (none key p);
  only = λ key h. inl h;
}

-- one more is
pub AreAdded-more : (P Q : ℕ → Type 0) (old mid new : List Bool) (at : ℕ)
    → at < length mid
    → new ≡ set mid at true
    → ((key : ℕ) → Q key → P key ⊎ (key ≡ at))
    → ((key : ℕ) → P key → Q key)
    → Q at
    → AreAdded P old mid
    → AreAdded Q old new
AreAdded-more P Q old mid new at lt is cases more here h = record {
  kept = λ key was. subst (λ xs. IsMarked xs key) (sym is) (kept_set mid at key (h.kept key was));
  put = λ key q. subst (λ xs. IsMarked xs key) (sym is) (elim (cases key q) [
    | inl p ↦ kept_set mid at key (h.put key p)
    | inr e ↦ subst (λ k. IsMarked (set mid at true) k) (sym e) (marked_set mid at lt)
  ]);
  only = λ key now. elim (from_set mid at key (subst (λ xs. IsMarked xs key) is now)) [
    | inl was ↦ elim (h.only key was) [ inl old ↦ inl old | inr p ↦ inr (more key p) ]
    | inr e ↦ inr (subst Q (sym e) here)
  ];
}

-- the same marks, said in another way
pub AreAdded-same : (P Q : ℕ → Type 0) (old new : List Bool)
    → ((key : ℕ) → P key → Q key)
    → ((key : ℕ) → Q key → P key)
    → AreAdded P old new
    → AreAdded Q old new
AreAdded-same P Q old new to from h = record {
  kept = h.kept;
  put = λ key q. h.put key (from key q);
  only = λ key now. elim (h.only key now) [ inl was ↦ inl was | inr p ↦ inr (to key p) ];
}

-- one mark alone
pub AreAdded-one : (Q : ℕ → Type 0) (old new : List Bool) (at : ℕ)
    → at < length old
    → new ≡ set old at true
    → ((key : ℕ) → Q key → key ≡ at)
    → Q at
    → AreAdded Q old new
AreAdded-one Q old new at lt is only here =
    AreAdded-more (λ key. ⊥) Q old old new at lt is (λ key q. inr (only key q))
    (λ key none. absurd none) here (AreAdded-none (λ key. ⊥) old (λ key none. none))

-- the copies of these nodes under the map of that number
abbrev AreOf : List ℕ → ℕ → ℕ → Type 0
AreOf children m key = Contains children (key / 8) × (key % 8 ≡ m)

pub added-more : (children : List ℕ) (child m : ℕ) (old mid new : List Bool)
    → m < 8
    → 8 * child + m < length mid
    → new ≡ set mid (8 * child + m) true
    → AreAdded (AreOf children m) old mid
    → AreAdded (AreOf (children ++ child ∷ []) m) old new
added-more children child m old mid new few lt is h =
    AreAdded-more (AreOf children m) (AreOf (children ++ child ∷ []) m) old mid new
    (8 * child + m) lt is (λ key q. elim (Contains-push_cases children child (key / 8) q.0) [
      | inl was ↦ inl (was, q.1)
      | inr e ↦ inr (omega (arith, e, q.1))
    ]) (λ key p. (Contains-append_left children (child ∷ []) (key / 8) p.0, p.1)) (
      subst (Contains (children ++ child ∷ [])) (sym (key-node child m few))
          (Contains-push children child),
      key-map child m few,
    ) h
