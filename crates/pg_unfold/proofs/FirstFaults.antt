-- A faultless certificate has no first fault, and any other has one at most.
use Rattle.std.proofs.Common.{◌≡◌, ℕ, zero, suc, ◌<◌, List, [], ◌∷◌, length, take, Some, slice_get}
use Rattle.std.proofs.Common.{refl, sym, ap, ◌∙◌, subst, inl, inr, arith}
use Rattle.pg_unfold.proofs.Common.{AllZip, cases_order, Game, ImageCert, ImageClaim, ImageNode}
use Rattle.pg_base.proofs.Stands.{in_take}
use Rattle.pg_unfold.specs.Flaw.{flaw_number}
use Rattle.pg_unfold.specs.Flaws.{AreSound, HasSize, IsFaultless, IsFirstFault, IsFirstFlaw}
use Rattle.pg_unfold.specs.Flaws.{IsFirstIn, IsFirstTooLarge, IsLeastFlaw, IsSoundClaim}
use Rattle.pg_unfold.specs.declared.flaw.Flaw.{Flaw}
use Rattle.pg_unfold.proofs.Sizes.{all_at, fault_excludes, too_large}

pub no_fault : (g : Game) (c : ImageCert)
    → IsFaultless g c
    → (claim node why : ℕ) → IsFirstFault g c claim node why
    → ⊥
no_fault g c faultless claim node why h = fault_excludes g c claim node why h faultless

-- numbers of which neither is less are one
tied : (m n : ℕ) → (m < n → ⊥) → (n < m → ⊥) → m ≡ n
tied m n less more = elim (cases_order m n) [
  | inl e ↦ e
  | inr h ↦ elim h [
    | inl lt ↦ absurd (less lt)
    | inr gt ↦ absurd (more gt)
  ]
]

-- ---- the first faulty node

module _ (g : Game) (cs : List ImageClaim) where
  -- a claim with a faulty node isn't sound
  unsound : (i k w : ℕ) (a : IsFirstFlaw g cs i k w) → IsSoundClaim g a.faulty → ⊥
  unsound i k w a sound = a.first.least.fails (sound k a.first.node a.first.at a.flaw)

  not_all_sound : (i k w : ℕ) → IsFirstFlaw g cs i k w → AreSound g cs → ⊥
  not_all_sound i k w a sound =
      unsound i k w a (all_at (IsSoundClaim g) cs i a.faulty sound a.claim_at)

  claims_tie : (i k w j l v : ℕ) → IsFirstFlaw g cs i k w → IsFirstFlaw g cs j l v → i < j → ⊥
  claims_tie i k w j l v a b lt = unsound i k w a
      (all_at (IsSoundClaim g) (take j cs) i a.faulty b.claims_before
      (in_take cs j i a.faulty lt a.claim_at))

-- of one claim
module _ (g : Game) (c : ImageClaim) where
  nodes_tie : (k l : ℕ) (flaw other : Flaw)
      → IsFirstIn g c k flaw
      → IsFirstIn g c l other
      → k < l
      → ⊥
  nodes_tie k l flaw other a b lt = a.least.fails (b.before k a.node lt a.at flaw)

  flaws_tie : (k : ℕ) (flaw other : Flaw)
      → IsFirstIn g c k flaw
      → IsFirstIn g c k other
      → flaw_number flaw < flaw_number other
      → ⊥
  flaws_tie k flaw other a b lt =
      let same : Some b.node ≡ Some a.node = sym b.at ∙ a.at in
      let node : b.node ≡ a.node = cc in
      let least : IsLeastFlaw g c.nodes k a.node other =
      subst (λ (n : ImageNode). IsLeastFlaw g c.nodes k n other) node b.least in
      a.least.fails (least.lesser flaw lt)

  first_once : (k l : ℕ) (flaw other : Flaw)
      → IsFirstIn g c k flaw
      → IsFirstIn g c l other
      → (k ≡ l) × (flaw_number flaw ≡ flaw_number other)
  first_once k l flaw other a b =
      let nodes : k ≡ l = tied k l (nodes_tie k l flaw other a b) (nodes_tie l k other flaw b a) in
      let there : IsFirstIn g c k other =
      subst (λ (j : ℕ). IsFirstIn g c j other) (sym nodes) b in (
        nodes,
        tied (flaw_number flaw) (flaw_number other) (flaws_tie k flaw other a there)
            (flaws_tie k other flaw there a),
      )

one_flaw : (g : Game) (cs : List ImageClaim) (i k w j l v : ℕ)
    → IsFirstFlaw g cs i k w
    → IsFirstFlaw g cs j l v
    → (i ≡ j) × (k ≡ l) × (w ≡ v)
one_flaw g cs i k w j l v a b =
    let claims : i ≡ j =
    tied i j (claims_tie g cs i k w j l v a b) (claims_tie g cs j l v i k w b a) in
    let same : Some b.faulty ≡ Some a.faulty =
    sym b.claim_at ∙ ap (slice_get cs) (sym claims) ∙ a.claim_at in
    let claim : b.faulty ≡ a.faulty = cc in
    let both = first_once g a.faulty k l a.flaw b.flaw a.first
    (subst (λ (c : ImageClaim). IsFirstIn g c l b.flaw) claim b.first) in
    (claims, both.0, a.number ∙ both.1 ∙ sym b.number)

-- ---- the first claim that is too large

taken_again : {A : Type 0} (xs : List A) (i j : ℕ) → i < j → take i (take j xs) ≡ take i xs
taken_again xs zero j lt = refl
taken_again xs (suc i) zero lt = absurd (omega (arith, lt))
taken_again [] (suc i) (suc j) lt = refl
taken_again (x ∷ xs) (suc i) (suc j) lt = ap (λ ys. x ∷ ys) (taken_again xs i j (omega (arith, lt)))

larges_tie : (cs : List ImageClaim) (i k j l : ℕ)
    → IsFirstTooLarge cs i k
    → IsFirstTooLarge cs j l
    → i < j
    → ⊥
larges_tie cs i k j l a b lt = too_large (take j cs) i a.large a.before.sizes a.size
    (subst (λ (ds : List ImageClaim). AllZip HasSize ds a.before.sizes)
    (sym (taken_again cs i j lt)) a.before.are)
    (in_take cs j i a.large lt a.claim_at) a.is a.much b.before

one_large : (cs : List ImageClaim) (i k j l : ℕ)
    → IsFirstTooLarge cs i k
    → IsFirstTooLarge cs j l
    → (i ≡ j) × (k ≡ l)
one_large cs i k j l a b =
    let claims : i ≡ j = tied i j (larges_tie cs i k j l a b) (larges_tie cs j l i k b a) in
    let same : Some b.large ≡ Some a.large =
    sym b.claim_at ∙ ap (slice_get cs) (sym claims) ∙ a.claim_at in
    let claim : b.large ≡ a.large = cc in
    let count : length b.large.nodes ≡ length a.large.nodes =
    ap (λ (c : ImageClaim). length c.nodes) claim in
    let last = a.last in
    let other = b.last in
    (claims, omega (arith, last, other, count))

-- ---- the first fault

pub one_fault : (g : Game) (c : ImageCert) (i k w j l v : ℕ)
    → IsFirstFault g c i k w
    → IsFirstFault g c j l v
    → (i ≡ j) × (k ≡ l) × (w ≡ v)
one_fault g c i k w j l v (inl a) (inl b) = one_flaw g c.claims i k w j l v a b
one_fault g c i k w j l v (inl a) (inr (is, sound, b)) =
    absurd (not_all_sound g c.claims i k w a sound)
one_fault g c i k w j l v (inr (is, sound, a)) (inl b) =
    absurd (not_all_sound g c.claims j l v b sound)
one_fault g c i k w j l v (inr (is, sound, a)) (inr (too, there, b)) =
    let both = one_large c.claims i k j l a b in
    (both.0, both.1, is ∙ sym too)
