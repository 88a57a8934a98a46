-- Facts with one proof at most, which hold wherever they are known to hold without a proof at hand;
-- and the claim that a side plays.
use Rattle.std.proofs.Common.{◌≡◌, ℕ, ◌≤◌, suc, Bool, true, List, [], ◌∷◌, Some, find}
use Rattle.std.proofs.Common.{slice_get, inl, inr, refl, sym, ap, ◌∙◌, arith}
use Rattle.std.specs.Prelude.{◌&&◌}
use Rattle.std.specs.Coded.{Coded-set, coded_bool, coded_ℕ}
use Rattle.std.proofs.Math.Logic.{∥∥₁_elim, ∥∥₁_map}
use Rattle.std.proofs.Math.Bridge.{le_prop}
use Rattle.std.proofs.lemmas.Bool.{false≢true}
use Rattle.pg_switch.proofs.Common.{and_parts, cases_Bool, cases_lt, FinSet, nat_cmp}
use Rattle.pg_switch.proofs.Common.{is_same_side, Side, X, Y, Position}
use Rattle.pg_base.specs.contracts.side.Side as side_row
use Rattle.pg_switch.specs.Claims.{AreFree, AreFreeOrE}

pub same_bool : (a b : Bool) → ∥ a ≡ b ∥₁ → a ≡ b
same_bool a b t = ∥∥₁_elim t (Coded-set coded_bool a b) (λ x. x)

pub same_number : (a b : ℕ) → ∥ a ≡ b ∥₁ → a ≡ b
same_number a b t = ∥∥₁_elim t (Coded-set coded_ℕ a b) (λ x. x)

pub same_side : (a b : Side) → ∥ a ≡ b ∥₁ → a ≡ b
same_side a b t = ∥∥₁_elim t (Coded-set side_row.the_row.coded a b) (λ x. x)

pub less : (a b : ℕ) → ∥ a ≤ b ∥₁ → a ≤ b
less a b t = ∥∥₁_elim t le_prop (λ x. x)

pub are_free : (n : ℕ) (p : Position) (set : FinSet nat_cmp)
    → ∥ AreFree n p set ∥₁
    → AreFree n p set
are_free n p set t f k = (
  less _ _ (∥∥₁_map t (λ h. (h f k).0)),
  same_bool _ _ (∥∥₁_map t (λ h. (h f k).1)),
)

pub free_or_e : (n : ℕ) (p : Position) (side : Side) (set : FinSet nat_cmp)
    → ∥ AreFreeOrE n p side set ∥₁
    → AreFreeOrE n p side set
free_or_e n p side set t f k = elim (cases_lt f n) [
  | inl low ↦ inl (
    low,
    same_bool _ _ (∥∥₁_map t (λ h. elim (h f k) [
      | inl i ↦ i.1
      | inr e ↦ let same = e.0 in absurd (omega (arith, same, low))
    ])),
  )
  | inr high ↦ inr (
    same_number _ _ (∥∥₁_map t (λ h. elim (h f k) [
      | inl i ↦ let low = i.0 in absurd (omega (arith, low, high))
      | inr e ↦ e.0
    ])),
    same_side _ _ (∥∥₁_map t (λ h. elim (h f k) [
      | inl i ↦ let low = i.0 in absurd (omega (arith, low, high))
      | inr e ↦ e.1
    ])),
  )
]

-- ---- the claim that is chosen

pub same_side-true : (a b : Side) → is_same_side a b ≡ true → a ≡ b
same_side-true X X h = refl
same_side-true X Y h = absurd (false≢true h)
same_side-true Y X h = absurd (false≢true h)
same_side-true Y Y h = refl

module _ {C : Type 0} where
  -- a claim of the list, of the side and the turn
  pub record IsChosen (side_of turn_of : C → Side) (claims : List C) (side turn : Side)
      (claim : C) : Type 0 where
    pub place : ℕ
    pub at : slice_get claims place ≡ Some claim
    pub side_is : side_of claim ≡ side
    pub turn_is : turn_of claim ≡ turn

  same_Some : (y x : C) → Some y ≡ Some x → y ≡ x
  same_Some y x e = cc

  found : (t : C → Bool) (xs : List C) (x : C)
      → find t xs ≡ Some x
      → (k : ℕ) × (slice_get xs k ≡ Some x) × (t x ≡ true)
  found t [] x e = cc
  found t (y ∷ ys) x e = elim (cases_Bool (t y)) [
    | inl on ↦
        let same : y ≡ x = same_Some y x (rw on at e) in
        (0, ap Some same, ap t (sym same) ∙ on)
    | inr off ↦ let w = found t ys x (rw off at e) in (suc w.0, w.1, w.2)
  ]

  pub chosen-is : (side_of turn_of : C → Side) (claims : List C) (side turn : Side) (claim : C)
      → find (λ c. is_same_side (side_of c) side && is_same_side (turn_of c) turn) claims
      ≡ Some claim
      → IsChosen side_of turn_of claims side turn claim
  chosen-is side_of turn_of claims side turn claim h =
      let w = found (λ c. is_same_side (side_of c) side && is_same_side (turn_of c) turn) claims
      claim h in
      let q = and_parts (is_same_side (side_of claim) side) (is_same_side (turn_of claim) turn) w.2
      in
      record {
        place = w.0;
        at = w.1;
        side_is = same_side-true (side_of claim) side q.0;
        turn_is = same_side-true (turn_of claim) turn q.1;
      }
