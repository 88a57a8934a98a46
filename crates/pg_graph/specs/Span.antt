-- What sets of elements span, bases, fundamental circuits, and pairs of sets that span or bridge
-- each other's members.
use Rattle.std.specs.Prelude.{◌≡◌, ℕ, Bool, true, false, not, ◌&&◌}
use Rattle.pg_base.specs.Sets.{plus, minus, either, outside, IsWithin}

-- A matroid by its closure: a set spans its members, spanning goes through spanned sets, and
-- elements trade places (Oxley, Matroid Theory, section 1.4).
pub record IsSpan (spans : (ℕ → Bool) → ℕ → Bool) : Type 0 where
  pub holds : (a : ℕ → Bool) (f : ℕ) → a f ≡ true → spans a f ≡ true
  pub closed : (a b : ℕ → Bool) (f : ℕ)
      → ((g : ℕ) → b g ≡ true → spans a g ≡ true)
      → spans b f ≡ true
      → spans a f ≡ true
  pub trades : (a : ℕ → Bool) (f g : ℕ)
      → spans a f ≡ false
      → spans (plus a g) f ≡ true
      → spans (plus a f) g ≡ true

-- a set of elements that spans every element, none of whose members is spanned by the others
pub record IsBase (spans : (ℕ → Bool) → ℕ → Bool) (elements base : ℕ → Bool) : Type 0 where
  pub within : IsWithin base elements
  pub spanning : (f : ℕ) → elements f ≡ true → spans base f ≡ true
  pub free : (f : ℕ) → base f ≡ true → spans (minus base f) f ≡ false

-- the base with y out and x in
unfoldable pub swapped : (ℕ → Bool) → ℕ → ℕ → ℕ → Bool
swapped b y x = plus (minus b y) x

-- the fundamental circuit of f, but for f itself: the members without which the rest of the base
-- doesn't span f
unfoldable pub circuit : ((ℕ → Bool) → ℕ → Bool) → (ℕ → Bool) → ℕ → ℕ → Bool
circuit spans b f y = b y && not (spans (minus b y) f)

-- what is reached from the elements in neither base: their fundamental circuits stay inside, and no
-- member is in both
pub record IsReached (spans : (ℕ → Bool) → ℕ → Bool) (elements b c r : ℕ → Bool) : Type 0 where
  pub elements_only : IsWithin r elements
  pub begins : (f : ℕ) → elements f ≡ true → b f ≡ false → c f ≡ false → r f ≡ true
  pub first : (f : ℕ) → r f ≡ true → b f ≡ false → IsWithin (circuit spans b f) r
  pub second : (f : ℕ) → r f ≡ true → c f ≡ false → IsWithin (circuit spans c f) r
  pub apart : (f : ℕ) → r f ≡ true → b f ≡ true → c f ≡ false

-- with s each of two disjoint sets spans the other one and e (Lehman 1964)
pub record IsTrees (spans : (ℕ → Bool) → ℕ → Bool) (e : ℕ) (s a1 a2 : ℕ → Bool) : Type 0 where
  pub apart : (f : ℕ) → a1 f ≡ true → a2 f ≡ false
  pub first : (f : ℕ) → a2 f ≡ true → spans (either s a1) f ≡ true
  pub first_joins : spans (either s a1) e ≡ true
  pub second : (f : ℕ) → a1 f ≡ true → spans (either s a2) f ≡ true
  pub second_joins : spans (either s a2) e ≡ true

-- the dual: where r loses one of two disjoint sets, nothing else spans a member of the other one,
-- nor e
pub record IsCuts (spans : (ℕ → Bool) → ℕ → Bool) (e : ℕ) (r d1 d2 : ℕ → Bool) : Type 0 where
  pub apart : (f : ℕ) → d1 f ≡ true → d2 f ≡ false
  pub first : (f : ℕ) → d2 f ≡ true → spans (minus (outside r d1) f) f ≡ false
  pub first_parts : d1 e ≡ false → spans (minus (outside r d1) e) e ≡ false
  pub second : (f : ℕ) → d1 f ≡ true → spans (minus (outside r d2) f) f ≡ false
  pub second_parts : d2 e ≡ false → spans (minus (outside r d2) e) e ≡ false
  pub first_in : IsWithin d1 r
  pub second_in : IsWithin d2 r
  pub joins_in : r e ≡ true
