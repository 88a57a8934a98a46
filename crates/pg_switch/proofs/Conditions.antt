-- The tests of trees and cuts say what the definitions say.
use Rattle.std.proofs.Common.{◌≡◌, ℕ, Bool, true, false, inl, inr, sym, ap, ◌∙◌, subst, arith}
use Rattle.std.specs.Prelude.{◌↔◌, IsTrue}
use Rattle.pg_switch.proofs.Common.{both_ways, FinSet, contains, insert, union, difference, nat_cmp}
use Rattle.pg_switch.proofs.Common.{outside, contains-union_either, contains-difference_outside}
use Rattle.pg_switch.proofs.Common.{insert-cases, insert-old, insert-self, outside_parts, Graph}
use Rattle.pg_switch.proofs.Common.{edge_count, JoinsEndsOf, IsBridge, AreEdges, Position, with_set}
use Rattle.pg_switch.proofs.Common.{without_set}
use Rattle.pg_switch.specs.Parts.{JoinsOther, BridgesOther}
use Rattle.pg_switch.proofs.EdgeSets.{left_edges, left_edges-below, bridge-same, without-agree}

-- ---- sets

pub insert_edges : (h : Graph) (s w : FinSet nat_cmp)
    → AreEdges h (contains s)
    → w ≡ insert s (edge_count h)
    → AreEdges h (contains w)
insert_edges h s w small e z k = elim (insert-cases s (edge_count h) z
    (subst (λ (q : FinSet nat_cmp). contains q z ≡ true) e k)) [
      | inl at ↦ omega arith
      | inr old ↦ small z old
    ]

-- ---- trees

pub joins_other-iff : (h : Graph) (p : Position) (one other u w : FinSet nat_cmp) (r : Bool)
    → u ≡ union p.x one
    → w ≡ insert other (edge_count h)
    → (IsTrue r ↔ ((f : ℕ) → contains w f ≡ true → JoinsEndsOf h (contains u) f))
    → IsTrue r ↔ JoinsOther h p one other
joins_other-iff h p one other u w r is_union is_insert each =
    let joined : contains u ≡ with_set p one =
    ap (λ (s : FinSet nat_cmp). contains s) is_union ∙ contains-union_either p.x one in
    let in_w : (f : ℕ) → contains (insert other (edge_count h)) f ≡ true → contains w f ≡ true =
    λ f k. subst (λ (s : FinSet nat_cmp). contains s f ≡ true) (sym is_insert) k in (
      λ on. record {
        members = λ f k. subst (λ (s : ℕ → Bool). JoinsEndsOf h s f) joined
            (each.0 on f (in_w f (insert-old other (edge_count h) f k)));
        terminals = subst (λ (s : ℕ → Bool). JoinsEndsOf h s (edge_count h)) joined
            (each.0 on (edge_count h) (in_w (edge_count h) (insert-self other (edge_count h))));
      },
      λ all. each.1 (λ f k. subst (λ (s : ℕ → Bool). JoinsEndsOf h s f) (sym joined)
          (elim (insert-cases other (edge_count h) f
          (subst (λ (s : FinSet nat_cmp). contains s f ≡ true) is_insert k)) [
            | inl at ↦ subst (λ (z : ℕ). JoinsEndsOf h (with_set p one) z) (sym at) all.terminals
            | inr old ↦ all.members f old
          ])),
    )

-- ---- cuts

-- the edges that are left without a set, as the code finds them
pub left-without : (h : Graph) (p : Position) (one all left : FinSet nat_cmp)
    → contains all ≡ left_edges h p
    → left ≡ difference all one
    → contains left ≡ outside (left_edges h p) (contains one)
left-without h p one all left is_all is_left = ap (λ (s : FinSet nat_cmp). contains s) is_left
    ∙ contains-difference_outside all one
    ∙ ap (λ (a : ℕ → Bool). outside a (contains one)) is_all

pub left_set-edges : (h : Graph) (p : Position) (one left : FinSet nat_cmp)
    → contains left ≡ outside (left_edges h p) (contains one)
    → AreEdges h (contains left)
left_set-edges h p one left is z k = left_edges-below h p z
    (outside_parts (left_edges h p) (contains one) z (subst (λ (s : ℕ → Bool). s z ≡ true) is k)).0

bridge-there : (h : Graph) (p : Position) (one left : FinSet nat_cmp) (f : ℕ)
    → contains left ≡ outside (left_edges h p) (contains one)
    → IsBridge h (contains left) f
    → IsBridge h (without_set p one) f
bridge-there h p one left f is b = bridge-same h (contains left) (without_set p one) f
    (λ k low. ap (λ (s : ℕ → Bool). s k) is ∙ sym (without-agree h p one k low)) b

bridge-back : (h : Graph) (p : Position) (one left : FinSet nat_cmp) (f : ℕ)
    → contains left ≡ outside (left_edges h p) (contains one)
    → IsBridge h (without_set p one) f
    → IsBridge h (contains left) f
bridge-back h p one left f is b = bridge-same h (without_set p one) (contains left) f
    (λ k low. without-agree h p one k low ∙ ap (λ (s : ℕ → Bool). s k) (sym is)) b

-- where e is in the one set
pub bridges_in-iff : (h : Graph) (p : Position) (one other left : FinSet nat_cmp) (r : Bool)
    → contains left ≡ outside (left_edges h p) (contains one)
    → contains one (edge_count h) ≡ true
    → (IsTrue r ↔ ((f : ℕ) → contains other f ≡ true → IsBridge h (contains left) f))
    → IsTrue r ↔ BridgesOther h p one other
bridges_in-iff h p one other left r is e_in each = (
  λ on. record {
    members = λ f k. bridge-there h p one left f is (each.0 on f k);
    terminals = λ out. absurd (both_ways _ out e_in);
  },
  λ all. each.1 (λ f k. bridge-back h p one left f is (all.members f k)),
)

-- where it isn't
pub bridges_out-iff : (h : Graph) (p : Position) (one other left w : FinSet nat_cmp) (r : Bool)
    → contains left ≡ outside (left_edges h p) (contains one)
    → w ≡ insert other (edge_count h)
    → contains one (edge_count h) ≡ false
    → (IsTrue r ↔ ((f : ℕ) → contains w f ≡ true → IsBridge h (contains left) f))
    → IsTrue r ↔ BridgesOther h p one other
bridges_out-iff h p one other left w r is is_insert e_out each =
    let in_w : (f : ℕ) → contains (insert other (edge_count h)) f ≡ true → contains w f ≡ true =
    λ f k. subst (λ (s : FinSet nat_cmp). contains s f ≡ true) (sym is_insert) k in (
      λ on. record {
        members = λ f k. bridge-there h p one left f is
            (each.0 on f (in_w f (insert-old other (edge_count h) f k)));
        terminals = λ out. bridge-there h p one left (edge_count h) is
            (each.0 on (edge_count h) (in_w (edge_count h) (insert-self other (edge_count h))));
      },
      λ all. each.1 (λ f k. bridge-back h p one left f is
          (elim (insert-cases other (edge_count h) f
          (subst (λ (s : FinSet nat_cmp). contains s f ≡ true) is_insert k)) [
            | inl at ↦
                subst (λ (z : ℕ). IsBridge h (without_set p one) z) (sym at) (all.terminals e_out)
            | inr old ↦ all.members f old
          ])),
    )
