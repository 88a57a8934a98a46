-- Nodes of one claim that differ in position.
use Rattle.std.proofs.Common.{◌≡◌, ◌∙◌, ◌⊎◌, ℕ, ◌+◌, ◌<◌, ◌≤◌, Bool, true, false, cond, List}
use Rattle.std.proofs.Common.{length, not, slice_get, Some, refl, sym, ap, subst, inl, inr, arith}
use Rattle.pg_settle.proofs.Common.{Claim, HaveDifferentPositions, Node, Position, cases_Bool}
use Rattle.pg_settle.proofs.Common.{cond-false, cond-true, equal_positions}
use Rattle.pg_settle.proofs.Common.{equal_positions-decides, false≢true, position_of}
use Rattle.pg_settle.proofs.Common.{slice_get_within}
use Rattle.std.proofs.lemmas.Bool.{cases_lt}

-- one of the first nodes has the position
abbrev IsMet : List Node → ℕ → Position → Type 0
IsMet nodes k p = (i : ℕ) × (n : Node) × (i < k) × (slice_get nodes i ≡ Some n)
    × (position_of n ≡ p)

-- the set has the positions of the first nodes, which all differ
pub record HasMet (has : Position → Bool) (nodes : List Node) (k : ℕ) : Type 0 where
  pub met : (p : Position) → has p ≡ true → IsMet nodes k p
  pub all : (p : Position) → IsMet nodes k p → has p ≡ true
  pub differ : (i j : ℕ) (m n : Node)
      → i < k
      → j < k
      → slice_get nodes i ≡ Some m
      → slice_get nodes j ≡ Some n
      → position_of m ≡ position_of n
      → i ≡ j

-- whether a position was added tells whether the set had it
pub isnt_new : (had : Bool) → not had ≡ false → had ≡ true
isnt_new true e = refl
isnt_new false e = absurd (false≢true (sym e))

pub is_new : (had : Bool) → not had ≡ true → had ≡ false
is_new true e = absurd (false≢true e)
is_new false e = refl

pub met_none : (has : Position → Bool) (nodes : List Node)
    → ((p : Position) → has p ≡ false)
    → HasMet has nodes 0
met_none has nodes none = record {
  met = λ p e. absurd (false≢true (sym (none p) ∙ e));
  all = λ p one. let low = one.2 in absurd (omega (arith, low));
  differ = λ i j m n low also at there same. absurd (omega (arith, low));
}

-- a place up to one is that one or below it
below_or : (i k : ℕ) → i < k + 1 → (i < k) ⊎ (i ≡ k)
below_or i k low = elim (cases_lt i k) [
  | inl less ↦ inl less
  | inr more ↦ inr (omega (arith, low, more))
]

module _ (has : Position → Bool) (nodes : List Node) (k : ℕ) (node : Node)
    (was : HasMet has nodes k) (at : slice_get nodes k ≡ Some node) where
  -- the node that stands there
  same_node : (i : ℕ) (n : Node) → i ≡ k → slice_get nodes i ≡ Some n → n ≡ node
  same_node i n is there =
      let both : Some n ≡ Some node =
      sym there ∙ ap (λ (j : ℕ). slice_get nodes j) is ∙ at in
      cc both

  -- a node before it has its position
  pub met_twice : has (position_of node) ≡ true → HaveDifferentPositions nodes → ⊥
  met_twice e differ =
      let one = was.met (position_of node) e in
      let place : one.0 ≡ k = differ one.0 k one.1 node one.3 at one.4 in
      let low = one.2 in
      absurd (omega (arith, low, place))

  module _ (now : Position → Bool) (fresh : has (position_of node) ≡ false)
      (updates : (q : Position)
      → now q ≡ cond (equal_positions (position_of node) q) true (has q)) where
    more_met : (p : Position) → now p ≡ true → IsMet nodes (k + 1) p
    more_met p e = elim (cases_Bool (equal_positions (position_of node) p)) [
      | inl on ↦ (k, node, omega arith, at, (equal_positions-decides (position_of node) p).0 on)
      | inr off ↦
          let old = was.met p (sym (cond-false _ _ _ off) ∙ sym (updates p) ∙ e) in
          let low = old.2 in
          (old.0, old.1, omega (arith, low), old.3, old.4)
    ]

    more_all : (p : Position) → IsMet nodes (k + 1) p → now p ≡ true
    more_all p (i, n, low, there, is) =
        elim (cases_Bool (equal_positions (position_of node) p)) [
          | inl on ↦ updates p ∙ cond-true _ _ _ on
          | inr off ↦ elim (below_or i k low) [
            | inl less ↦ updates p ∙ cond-false _ _ _ off ∙ was.all p (i, n, less, there, is)
            | inr last ↦
                let here : position_of node ≡ p =
                ap (λ (m : Node). position_of m) (sym (same_node i n last there)) ∙ is in
                absurd (false≢true
                (sym off ∙ (equal_positions-decides (position_of node) p).1 here))
          ]
        ]

    -- no earlier node has its position
    new_here : (i : ℕ) (n : Node)
        → i < k
        → slice_get nodes i ≡ Some n
        → position_of n ≡ position_of node
        → ⊥
    new_here i n low there same =
        false≢true (sym fresh ∙ was.all (position_of node) (i, n, low, there, same))

    more_differ : (i j : ℕ) (m n : Node)
        → i < k + 1
        → j < k + 1
        → slice_get nodes i ≡ Some m
        → slice_get nodes j ≡ Some n
        → position_of m ≡ position_of n
        → i ≡ j
    more_differ i j m n low also first second same = elim (below_or i k low) [
      | inl less ↦ elim (below_or j k also) [
        | inl fewer ↦ was.differ i j m n less fewer first second same
        | inr last ↦ absurd (new_here i m less first
            (same ∙ ap (λ (o : Node). position_of o) (same_node j n last second)))
      ]
      | inr end ↦ elim (below_or j k also) [
        | inl fewer ↦ absurd (new_here j n fewer second
            (sym same ∙ ap (λ (o : Node). position_of o) (same_node i m end first)))
        | inr last ↦ end ∙ sym last
      ]
    ]

    pub met_more : HasMet now nodes (k + 1)
    met_more = record { met = more_met; all = more_all; differ = more_differ }

pub met_all : (has : Position → Bool) (nodes : List Node) (k : ℕ)
    → length nodes ≤ k
    → HasMet has nodes k
    → HaveDifferentPositions nodes
met_all has nodes k end was i j m n first second same =
    let low = slice_get_within nodes i m first in
    let also = slice_get_within nodes j n second in
    was.differ i j m n (omega (arith, low, end)) (omega (arith, also, end)) first second same

-- ---- claims

-- the nodes of each of the first claims differ
abbrev pub DifferUpTo : List Claim → ℕ → Type 0
DifferUpTo claims k = (i : ℕ) (claim : Claim) → i < k
    → slice_get claims i ≡ Some claim
    → HaveDifferentPositions claim.nodes

pub differ_more : (claims : List Claim) (k : ℕ) (claim : Claim)
    → DifferUpTo claims k
    → slice_get claims k ≡ Some claim
    → HaveDifferentPositions claim.nodes
    → DifferUpTo claims (k + 1)
differ_more claims k claim was at differ i other low there = elim (below_or i k low) [
  | inl less ↦ was i other less there
  | inr last ↦
      let both : Some claim ≡ Some other =
      sym at ∙ ap (λ (j : ℕ). slice_get claims j) (sym last) ∙ there in
      let same : claim ≡ other = cc both in
      subst (λ (c : Claim). HaveDifferentPositions c.nodes) same differ
]

pub claims_all : (claims : List Claim) (k : ℕ)
    → length claims ≤ k
    → DifferUpTo claims k
    → (i : ℕ) (claim : Claim) → slice_get claims i ≡ Some claim
    → HaveDifferentPositions claim.nodes
claims_all claims k end was i claim there =
    let low = slice_get_within claims i claim there in
    was i claim (omega (arith, low, end)) there
