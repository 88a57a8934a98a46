-- Claims whose nodes are counted one after the other.
use Rattle.std.proofs.Common.{◌≡◌, ℕ, ◌+◌, ◌≤◌, List, [], ◌∷◌, ◌++◌, length, Some, slice_get, take}
use Rattle.std.proofs.Common.{inl, inr, arith}
use Rattle.pg_unfold.proofs.Common.{cases_lt, All-push, All-nil, sum_by_push, ImageClaim}
use Rattle.pg_unfold.specs.Flaws.{HasSize, HaveRoom, IsFirstTooLarge}
use Rattle.pg_unfold.specs.Gathered.{AreCounted, IsTooMuch}
use Rattle.pg_unfold.proofs.CopySteps.{push-zip}
use Rattle.pg_unfold.proofs.Sizes.{too_large}

pub counted-none : AreCounted [] 200000
counted-none = record {
  sizes = [];
  are = tt;
  each = All-nil (λ size. size ≤ 100000);
  together = omega arith;
}

pub counted-more : (cs : List ImageClaim) (c : ImageClaim) (size room left : ℕ)
    → AreCounted cs room
    → HasSize c size
    → size ≤ 100000
    → left + size ≡ room
    → AreCounted (cs ++ c ∷ []) left
counted-more cs c size room left h is few rest =
    let more = sum_by_push (λ (n : ℕ). n) h.sizes size in
    let before = h.together in
    record {
      sizes = h.sizes ++ size ∷ [];
      are = push-zip HasSize cs h.sizes c size h.are is;
      each = All-push (λ n. n ≤ 100000) h.sizes size h.each few;
      together = omega (arith, more, before, rest);
    }

pub counted-room : (cs : List ImageClaim) (room : ℕ) → AreCounted cs room → HaveRoom cs
counted-room cs room h = record {
  sizes = h.sizes;
  are = h.are;
  few = record { each = h.each; together = let all = h.together in omega (arith, all) };
}

pub counted-full : (claims : List ImageClaim) (i : ℕ) (c : ImageClaim) (size room : ℕ)
    → AreCounted (take i claims) room
    → slice_get claims i ≡ Some c
    → HasSize c size
    → ((size ≤ 100000) × (size ≤ room) → ⊥)
    → HaveRoom claims
    → ⊥
counted-full claims i c size room h at is full =
    too_large claims i c h.sizes size h.are at is
    (elim (cases_lt 100000 size) [
      | inl many ↦ inl many
      | inr le ↦ elim (cases_lt room size) [
        | inl over ↦ inr (let all = h.together in omega (arith, all, over))
        | inr low ↦ absurd (full (le, low))
      ]
    ])

pub counted-large : (claims : List ImageClaim) (i node : ℕ) (c : ImageClaim) (room : ℕ)
    → AreCounted (take i claims) room
    → slice_get claims i ≡ Some c
    → node + 1 ≡ length c.nodes
    → IsTooMuch c room
    → IsFirstTooLarge claims i node
counted-large claims i node c room h at last much = record {
  before = record {
    sizes = h.sizes;
    are = h.are;
    few = record { each = h.each; together = let all = h.together in omega (arith, all) };
  };
  large = c;
  claim_at = at;
  last = last;
  size = much.size;
  is = much.is;
  much = elim much.much [
    | inl many ↦ inl many
    | inr full ↦ inr (let all = h.together in omega (arith, all, full))
  ];
}
