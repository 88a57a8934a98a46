-- Nodes of claims with a position.
use Rattle.std.proofs.Common.{◌≡◌, ◌∙◌, ℕ, zero, suc, ◌+◌, ◌<◌, List, [], ◌∷◌, Some, slice_get}
use Rattle.std.proofs.Common.{length, map, get_or, refl, sym, ap, subst, inl, inr, arith}
use Rattle.pg_sessions.proofs.Common.{All, cases_order, none-some, slice_get_within}
use Rattle.pg_sessions.proofs.Common.{slice_get-get_or, position_of, Claim, Node, Position, Heading}
use Rattle.pg_sessions.proofs.Common.{heading}

-- a member that is read with itself as the default
pub read-at : {A : Type 0} (xs : List A) (k : ℕ) (x : A)
    → k < length xs
    → x ≡ get_or xs k x
    → slice_get xs k ≡ Some x
read-at {A} xs k x within is = slice_get-get_or xs k x within ∙ ap (λ (y : A). Some y) (sym is)

-- what holds of all members holds of one
pub member : {A : Type 0} (P : A → Type 0) (xs : List A) (k : ℕ) (x : A)
    → All P xs
    → slice_get xs k ≡ Some x
    → P x
member P xs k x all at =
    let within = slice_get_within xs k x at in
    let is : Some (get_or xs k x) ≡ Some x = sym (slice_get-get_or xs k x within) ∙ at in
    let same : get_or xs k x ≡ x = cc in
    subst (λ y. P y) same (all k x within)

-- the first nodes don't have the position
abbrev pub HasNoneBefore : List Node → Position → ℕ → Type 0
HasNoneBefore nodes p k =
    (j : ℕ) (n : Node) → j < k → slice_get nodes j ≡ Some n → position_of n ≡ p → ⊥

-- nor has the next
pub none-more : (nodes : List Node) (p : Position) (k : ℕ) (node : Node)
    → HasNoneBefore nodes p k
    → slice_get nodes k ≡ Some node
    → (position_of node ≡ p → ⊥)
    → HasNoneBefore nodes p (k + 1)
none-more nodes p k node before at other j n low here is = elim (cases_order j k) [
  | inl same ↦
      let there : Some n ≡ Some node = sym here ∙ (ap (slice_get nodes) same ∙ at) in
      let e : n ≡ node = cc in
      other (ap position_of (sym e) ∙ is)
  | inr apart ↦ elim apart [
    | inl below ↦ before j n below here is
    | inr above ↦ absurd (omega (arith, low, above))
  ]
]

-- the claim with this heading
pub headed : (claims : List Claim) (i : ℕ) (h : Heading)
    → slice_get (map heading claims) i ≡ Some h
    → (c : Claim) × (slice_get claims i ≡ Some c) × (heading c ≡ h)
headed [] i h at = absurd (none-some h at)
headed (c ∷ claims) zero h at = let same : heading c ≡ h = cc in (c, refl, same)
headed (c ∷ claims) (suc i) h at = headed claims i h at
