-- The replies that the code finds are those of the definitions.
use Rattle.std.proofs.Common.{◌≡◌, ℕ, Bool, true, Option, refl, sym, ap, ap₂, ◌∙◌}
use Rattle.std.proofs.Common.{subst}
use Rattle.std.specs.Prelude.{IfSome, IfNone}
use Rattle.pg_switch.proofs.Common.{FinSet, contains, remove, union, nat_cmp, outside}
use Rattle.pg_switch.proofs.Common.{contains-union_either, remove-old, Graph, edge_count}
use Rattle.pg_switch.proofs.Common.{first_end_of, second_end_of, AreBothEdges, AreEdges, Crosses}
use Rattle.pg_switch.proofs.Common.{Parts, IsLowest, Position, AreBelow, lowest_crossing}
use Rattle.pg_switch.proofs.Common.{lowest_parting, with_set, without_set}
use Rattle.pg_switch.proofs.EdgeSets.{left_edges, with_set-edges, without-agree}
use Rattle.pg_switch.proofs.Finding.{crossing-found, parting-found}

pub remove_edges : (h : Graph) (s w : FinSet nat_cmp) (x : ℕ)
    → AreEdges h (contains s)
    → w ≡ remove s x
    → AreEdges h (contains w)
remove_edges h s w x small is z k =
    small z (remove-old s x z (subst (λ (q : FinSet nat_cmp). contains q z ≡ true) is k))

-- X's edges with what is left of a set
joined-is : (p : Position) (one w joined : FinSet nat_cmp) (x : ℕ)
    → w ≡ remove one x
    → joined ≡ union p.x w
    → contains joined ≡ with_set p (remove one x)
joined-is p one w joined x is_w is_joined = ap (λ (s : FinSet nat_cmp). contains s)
    (is_joined ∙ ap (λ (s : FinSet nat_cmp). union p.x s) is_w)
    ∙ contains-union_either p.x (remove one x)

pub joined-edges : (h : Graph) (p : Position) (one w joined : FinSet nat_cmp) (x : ℕ)
    → AreBelow p.x (edge_count h)
    → AreEdges h (contains one)
    → w ≡ remove one x
    → joined ≡ union p.x w
    → AreEdges h (contains joined)
joined-edges h p one w joined x x_range small is_w is_joined =
    subst (λ (s : ℕ → Bool). AreEdges h s) (sym (joined-is p one w joined x is_w is_joined))
    (with_set-edges h p (remove one x) x_range (remove_edges h one (remove one x) x small refl))

pub short-found : (h : Graph) (p : Position) (one another w joined others : FinSet nat_cmp)
    (x u : ℕ) (r : Option ℕ)
    → AreBelow p.x (edge_count h)
    → AreBothEdges h (contains one) (contains another)
    → w ≡ remove one x
    → joined ≡ union p.x w
    → others ≡ remove another (edge_count h)
    → u ≡ first_end_of h x
    → IfSome r (λ k. IsLowest (contains others) (Crosses h (contains joined) u) k)
    → IfNone r ((k : ℕ) → contains others k ≡ true → Crosses h (contains joined) u k → ⊥)
    → r ≡ lowest_crossing h (with_set p (remove one x)) (first_end_of h x) another
short-found h p one another w joined others x u r x_range small is_w is_joined is_others is_u lowest
    none = crossing-found h (contains joined) u another others r
    (joined-edges h p one w joined x x_range small.first_range is_w is_joined) small.second_range
    is_others lowest none
    ∙ ap₂ (λ s v. lowest_crossing h s v another) (joined-is p one w joined x is_w is_joined) is_u

pub cut-found : (h : Graph) (p : Position) (one another left others : FinSet nat_cmp) (x u v : ℕ)
    (r : Option ℕ)
    → AreEdges h (contains another)
    → AreEdges h (contains left)
    → contains left ≡ outside (left_edges h p) (contains one)
    → others ≡ remove another (edge_count h)
    → u ≡ first_end_of h x
    → v ≡ second_end_of h x
    → IfSome r (λ k. IsLowest (contains others) (Parts h (contains left) u v) k)
    → IfNone r ((k : ℕ) → contains others k ≡ true → Parts h (contains left) u v k → ⊥)
    → r ≡ lowest_parting h (without_set p one) (first_end_of h x) (second_end_of h x) another
cut-found h p one another left others x u v r small edges is_left is_others is_u is_v lowest none =
    parting-found h (contains left) (without_set p one) u v another others r edges small is_others
    (λ z low. without-agree h p one z low ∙ ap (λ s. s z) (sym is_left)) lowest none
    ∙ ap₂ (λ a b. lowest_parting h (without_set p one) a b another) is_u is_v
