-- A claim has one size unfolded, so a claim that is too large has no room.
use Rattle.std.proofs.Common.{◌≡◌, ◌⊎◌, ℕ, zero, suc, ◌+◌, ◌<◌, ◌≤◌, List, [], ◌∷◌, length, sum}
use Rattle.std.proofs.Common.{get_or, take, Some, slice_get, refl, sym, ap, ap₂, ◌∙◌, subst, inl}
use Rattle.std.proofs.Common.{inr, arith}
use Rattle.pg_unfold.proofs.Common.{All, AllPairs, AllZip, Contains, sum_by_more_le}
use Rattle.pg_unfold.proofs.Common.{slice_get_within, get_or_from_slice_get, MAX_CLAIM_NODES}
use Rattle.pg_unfold.proofs.Common.{MAX_NODES, Game, ImageCert, ImageClaim, ImageNode}
use Rattle.pg_unfold.specs.Copies.{Copy, AreCopies, ComesBefore}
use Rattle.pg_unfold.specs.Flaws.{HasSize, HaveRoom, IsFaultless, IsFirstFault, IsFirstTooLarge}
use Rattle.pg_unfold.specs.Flaws.{IsSoundClaim}

-- ---- members of lists

at_front : {A : Type 0} (x : A) (xs : List A) → Contains (x ∷ xs) x
at_front x xs = (0, omega arith, refl)

further : {A : Type 0} (x : A) (xs : List A) (z : A) → Contains xs z → Contains (x ∷ xs) z
further x xs z (i, within, at) = (suc i, omega (arith, within), at)

front_or_further : {A : Type 0} (x : A) (xs : List A) (z : A)
    → Contains (x ∷ xs) z
    → (z ≡ x) ⊎ Contains xs z
front_or_further x xs z (zero, within, at) = inl (sym at)
front_or_further x xs z (suc i, within, at) = inr (i, omega (arith, within), at)

no_member : {A : Type 0} (z : A) → Contains [] z → ⊥
no_member z (i, within, at) = omega (arith, within)

-- ---- lists that ascend

module _ {A : Type 0} (R : A → A → Type 0) (apart : (a b : A) → R a b → R b a → ⊥) where
  above : (x : A) (xs : List A) → AllPairs R (x ∷ xs) → (z : A) → Contains xs z → R x z
  above x xs up z (i, within, at) =
      subst (λ a. R x a) at (up 0 (suc i) z (omega arith) (omega (arith, within)))

  rest : (x : A) (xs : List A) → AllPairs R (x ∷ xs) → AllPairs R xs
  rest x xs up =
      λ i j d before inside. up (suc i) (suc j) d (omega (arith, before)) (omega (arith, inside))

  same_front : (x y : A) (xs ys : List A)
      → AllPairs R (x ∷ xs)
      → AllPairs R (y ∷ ys)
      → (x ≡ y) ⊎ Contains ys x
      → (y ≡ x) ⊎ Contains xs y
      → x ≡ y
  same_front x y xs ys up vp (inl e) other = e
  same_front x y xs ys up vp (inr low) (inl e) = sym e
  same_front x y xs ys up vp (inr low) (inr high) =
      absurd (apart x y (above x xs up y high) (above y ys vp x low))

  in_rest : (x y z : A) (xs ys : List A)
      → x ≡ y
      → AllPairs R (x ∷ xs)
      → Contains xs z
      → (z ≡ y) ⊎ Contains ys z
      → Contains ys z
  in_rest x y z xs ys e up inside (inr is) = is
  in_rest x y z xs ys e up inside (inl f) =
      let own = above x xs up z inside in
      let same : z ≡ x = f ∙ sym e in
      absurd (apart x z own (subst (λ a. R a x) (sym same) (subst (λ a. R x a) same own)))

  -- lists with the same members that ascend are the same
  pub same_ascending : (xs ys : List A)
      → AllPairs R xs
      → AllPairs R ys
      → ((z : A) → Contains xs z → Contains ys z)
      → ((z : A) → Contains ys z → Contains xs z)
      → xs ≡ ys
  same_ascending [] [] up vp there back = refl
  same_ascending [] (y ∷ ys) up vp there back = absurd (no_member y (back y (at_front y ys)))
  same_ascending (x ∷ xs) [] up vp there back = absurd (no_member x (there x (at_front x xs)))
  same_ascending (x ∷ xs) (y ∷ ys) up vp there back =
      let e = same_front x y xs ys up vp (front_or_further y ys x (there x (at_front x xs)))
      (front_or_further x xs y (back y (at_front y ys))) in
      ap₂ (λ a others. a ∷ others) e
      (same_ascending xs ys (rest x xs up) (rest y ys vp)
      (λ z inside. in_rest x y z xs ys e up inside
      (front_or_further y ys z (there z (further x xs z inside)))) (λ z inside. in_rest y x z ys xs
      (sym e) vp inside (front_or_further x xs z (back z (further y ys z inside)))))

-- ---- sizes

pub copies_apart : (a b : Copy) → ComesBefore a b → ComesBefore b a → ⊥
copies_apart a b (inl x) (inl y) = omega (arith, x, y)
copies_apart a b (inl x) (inr (e, y)) = omega (arith, x, e)
copies_apart a b (inr (e, x)) (inl y) = omega (arith, e, y)
copies_apart a b (inr (e, x)) (inr (f, y)) = omega (arith, x, y)

pub copies_once : (nodes : List ImageNode) (xs ys : List Copy)
    → AreCopies nodes xs
    → AreCopies nodes ys
    → xs ≡ ys
copies_once nodes xs ys a b =
    let there = λ (z : Copy) (h : Contains xs z). let is = a.met z h in b.all z is.0 is.1 in
    let back = λ (z : Copy) (h : Contains ys z). let is = b.met z h in a.all z is.0 is.1 in
    same_ascending ComesBefore copies_apart xs ys a.ascending b.ascending there back

pub size_once : (c : ImageClaim) (s t : ℕ) → HasSize c s → HasSize c t → s ≡ t
size_once c s t a b =
    sym a.counted ∙ ap length (copies_once c.nodes a.copies b.copies a.are b.are) ∙ b.counted

sizes_once : (cs : List ImageClaim) (ss ts : List ℕ)
    → AllZip HasSize cs ss
    → AllZip HasSize cs ts
    → ss ≡ ts
sizes_once [] [] [] a b = refl
sizes_once [] [] (t ∷ ts) a b = absurd b
sizes_once [] (s ∷ ss) ts a b = absurd a
sizes_once (c ∷ cs) [] ts a b = absurd a
sizes_once (c ∷ cs) (s ∷ ss) [] a b = absurd b
sizes_once (c ∷ cs) (s ∷ ss) (t ∷ ts) a b =
    ap₂ (λ n ns. n ∷ ns) (size_once c s t a.0 b.0) (sizes_once cs ss ts a.1 b.1)

sizes_taken : (i : ℕ) (cs : List ImageClaim) (ss : List ℕ)
    → AllZip HasSize cs ss
    → AllZip HasSize (take i cs) (take i ss)
sizes_taken zero cs ss h = tt
sizes_taken (suc i) [] [] h = tt
sizes_taken (suc i) [] (s ∷ ss) h = absurd h
sizes_taken (suc i) (c ∷ cs) [] h = absurd h
sizes_taken (suc i) (c ∷ cs) (s ∷ ss) h = (h.0, sizes_taken i cs ss h.1)

size_at : (i : ℕ) (cs : List ImageClaim) (ss : List ℕ) (c : ImageClaim)
    → AllZip HasSize cs ss
    → slice_get cs i ≡ Some c
    → (s : ℕ) × (slice_get ss i ≡ Some s) × HasSize c s
size_at i [] [] c h at = absurd cc
size_at i [] (s ∷ ss) c h at = absurd h
size_at i (d ∷ cs) [] c h at = absurd h
size_at zero (d ∷ cs) (s ∷ ss) c h at =
    let e : Some d ≡ Some c = at in
    let same : d ≡ c = cc e in
    (s, refl, subst (λ (x : ImageClaim). HasSize x s) same h.0)
size_at (suc i) (d ∷ cs) (s ∷ ss) c h at = size_at i cs ss c h.1 at

pub all_at : {A : Type 0} (P : A → Type 0) (xs : List A) (i : ℕ) (x : A)
    → All P xs
    → slice_get xs i ≡ Some x
    → P x
all_at P xs i x all at =
    subst P (get_or_from_slice_get xs i x x at) (all i x (slice_get_within xs i x at))

-- a claim that is too large behind claims of these sizes
pub too_large : (claims : List ImageClaim) (i : ℕ) (c : ImageClaim) (sizes : List ℕ) (size : ℕ)
    → AllZip HasSize (take i claims) sizes
    → slice_get claims i ≡ Some c
    → HasSize c size
    → (MAX_CLAIM_NODES < size) ⊎ (MAX_NODES < sum sizes + size)
    → HaveRoom claims
    → ⊥
too_large claims i c sizes size are at is much room =
    let found = size_at i claims room.sizes c room.are at in
    let same : found.0 ≡ size = size_once c found.0 size found.2 is in
    let before : sum (take i room.sizes) ≡ sum sizes = ap sum
    (sizes_once (take i claims) (take i room.sizes) sizes
    (sizes_taken i claims room.sizes room.are) are) in
    let each : found.0 ≤ MAX_CLAIM_NODES =
    all_at (λ n. n ≤ MAX_CLAIM_NODES) room.sizes i found.0 room.few.each found.1 in
    let here : get_or room.sizes i 0 ≡ found.0 =
    get_or_from_slice_get room.sizes i found.0 0 found.1 in
    let part =
    sum_by_more_le (λ (n : ℕ). n) room.sizes i 0 (slice_get_within room.sizes i found.0 found.1) in
    let together = room.few.together in
    elim much [
      | inl many ↦ omega (arith, same, each, many)
      | inr full ↦ omega (arith, same, before, here, part, together, full)
    ]

no_room : (claims : List ImageClaim) (i node : ℕ)
    → IsFirstTooLarge claims i node
    → HaveRoom claims
    → ⊥
no_room claims i node h room =
    too_large claims i h.large h.before.sizes h.size h.before.are h.claim_at h.is h.much room

-- ---- faults

pub fault_excludes : (g : Game) (c : ImageCert) (claim node why : ℕ)
    → IsFirstFault g c claim node why
    → IsFaultless g c
    → ⊥
fault_excludes g c claim node why (inl first) faultless =
    let sound =
    all_at (IsSoundClaim g) c.claims claim first.faulty faultless.sound first.claim_at in
    let in_claim = first.first in
    in_claim.least.fails (sound node in_claim.node in_claim.at first.flaw)
fault_excludes g c claim node why (inr (is, sound, large)) faultless =
    no_room c.claims claim node large faultless.room
