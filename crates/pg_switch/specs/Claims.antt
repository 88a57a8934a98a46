-- Games in which X wants its points to pass a test, and Y that the points which aren't Y's don't;
-- and trees and cuts in such games, by what sets of elements span. In the switching game the test
-- is whether edges join the terminals, on vectors whether they sum to a target, in a connectivity
-- game whether edges join every two vertices.
use Rattle.std.specs.Prelude.{◌≡◌, ◌⊎◌, ◌<◌, ℕ, suc, Bool, true, false, not, ◌||◌, if◌then◌else◌}
use Rattle.pg_switch.specs.Prelude.{FinSet, contains, nat_cmp, ShareNone, below, minus, either}
use Rattle.pg_switch.specs.Prelude.{outside, IsWithin, XWins, YWins, Side, X, Y, Position, is_free}
use Rattle.pg_switch.specs.Prelude.{Rules}

-- ---- the points are the numbers below n

-- those that Y doesn't have
abbrev pub kept : ℕ → Position → ℕ → Bool
kept n p = below (λ f. not (contains p.y f)) n

-- over where X's points pass the test, and X has won, or where those that aren't Y's don't, and Y
-- has won
abbrev pub claim_rules : ℕ → ((ℕ → Bool) → Bool) → Rules
claim_rules n holds = record {
  points = n;
  bias = 1;
  over = λ p. holds (contains p.x) || not (holds (kept n p));
  outcome = λ p. if holds (contains p.x) then XWins else YWins;
}

-- more points pass where fewer do
abbrev pub IsMonotone : ((ℕ → Bool) → Bool) → Type 0
IsMonotone holds = (a b : ℕ → Bool) → IsWithin a b → holds a ≡ true → holds b ≡ true

-- a position of such rules: the sides have different points below n, and a turn is one point
pub record IsPlace (n : ℕ) (p : Position) : Type 0 where
  pub x_range : (v : ℕ) → contains p.x v ≡ true → v < n
  pub y_range : (v : ℕ) → contains p.y v ≡ true → v < n
  pub disjoint : ShareNone p.x p.y
  pub one_left : p.left ≡ 1

-- ---- spanning, which three laws define (pg_graph's IsSpan): the points are elements, and the
-- number n stands for one more, e

-- X wants to span e
abbrev pub span_rules : ((ℕ → Bool) → ℕ → Bool) → ℕ → Rules
span_rules spans n = claim_rules n (λ set. spans set n)

-- each member is free, or e where the side is to move
abbrev pub AreFreeOrE : ℕ → Position → Side → FinSet nat_cmp → Type 0
AreFreeOrE n p side set =
    (f : ℕ) → contains set f ≡ true → ((f < n) × (is_free p f ≡ true)) ⊎ ((f ≡ n) × (p.turn ≡ side))

-- each member is free
abbrev pub AreFree : ℕ → Position → FinSet nat_cmp → Type 0
AreFree n p set = (f : ℕ) → contains set f ≡ true → (f < n) × (is_free p f ≡ true)

-- ---- trees (Lehman, A solution of the Shannon switching game, 1964)

-- Disjoint sets of free elements, the first perhaps with e where X is to move: with X's elements
-- each spans the other's members, and e.
pub record AreSpanTrees (spans : (ℕ → Bool) → ℕ → Bool) (n : ℕ) (p : Position)
    (a1 a2 : FinSet nat_cmp) : Type 0 where
  pub first_free : AreFreeOrE n p X a1
  pub second_free : AreFree n p a2
  pub apart : ShareNone a1 a2
  pub first : (f : ℕ) → contains a2 f ≡ true → spans (either (contains p.x) (contains a1)) f ≡ true
  pub first_joins : spans (either (contains p.x) (contains a1)) n ≡ true
  pub second : (f : ℕ) → contains a1 f ≡ true → spans (either (contains p.x) (contains a2)) f ≡ true
  pub second_joins : spans (either (contains p.x) (contains a2)) n ≡ true

-- ---- cuts: the dual

-- what isn't Y's, with e and without a set
abbrev pub left_without : ℕ → Position → FinSet nat_cmp → ℕ → Bool
left_without n p d = outside (kept (suc n) p) (contains d)

-- f is a bridge of the set: what else is in it doesn't span f
abbrev pub IsSpanBridge : ((ℕ → Bool) → ℕ → Bool) → (ℕ → Bool) → ℕ → Type 0
IsSpanBridge spans set f = spans (minus set f) f ≡ false

-- Disjoint sets of free elements, the first perhaps with e where Y is to move: of what is left
-- without the one set each member of the other is a bridge, and so is e.
pub record AreSpanCuts (spans : (ℕ → Bool) → ℕ → Bool) (n : ℕ) (p : Position)
    (d1 d2 : FinSet nat_cmp) : Type 0 where
  pub first_free : AreFreeOrE n p Y d1
  pub second_free : AreFree n p d2
  pub apart : ShareNone d1 d2
  pub first : (f : ℕ) → contains d2 f ≡ true → IsSpanBridge spans (left_without n p d1) f
  pub first_parts : contains d1 n ≡ false → IsSpanBridge spans (left_without n p d1) n
  pub second : (f : ℕ) → contains d1 f ≡ true → IsSpanBridge spans (left_without n p d2) f
  pub second_parts : IsSpanBridge spans (left_without n p d2) n

-- ---- a side's sets: X's trees, Y's cuts

abbrev pub AreSpanSets : ((ℕ → Bool) → ℕ → Bool)
    → ℕ
    → Side
    → Position
    → FinSet nat_cmp
    → FinSet nat_cmp
    → Type 0
AreSpanSets spans n X p a1 a2 = AreSpanTrees spans n p a1 a2
AreSpanSets spans n Y p a1 a2 = AreSpanCuts spans n p a1 a2
