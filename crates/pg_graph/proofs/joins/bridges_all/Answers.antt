use Rattle.std.proofs.Common.{◌≡◌, ℕ, ◌+◌, Bool, true, false, List, arith, sym, ap, ◌∙◌, subst, inl}
use Rattle.std.proofs.Common.{inr}
use Rattle.pg_graph.proofs.Common.{cases_eq, cases_Bool, both_ways, false_from_ne_true, FinSet}
use Rattle.pg_graph.proofs.Common.{contains, plus, both, outside, contains-difference_outside}
use Rattle.pg_graph.proofs.Common.{both_parts, both_from, outside_parts, outside_from}
use Rattle.std.specs.Ordering.{nat_cmp}
use Rattle.pg_graph.specs.Graph.{JoinsEndsOf, IsBridge, edge_count, first_end_of, second_end_of}
use Rattle.pg_graph.specs.Labels.{IsLabelling}
use Rattle.pg_graph.proofs.Bridges.{united, united-begin, united-in, united-out, united-all}
use Rattle.pg_graph.proofs.Bridges.{united-older, bridge-stays, bridge-comes, no_bridge}
use Rattle.pg_graph.proofs.Bridges.{outside-bridge, bridge-outside}
use Rattle.pg_graph.proofs.StepLemmas.{IsLabelling-joined, ends_label, ends_two}
use Rattle.pg_graph.proofs.joins.bridges_all.Goals as goal
use Rattle.pg_graph.proofs.joins.bridges_all.Goals.{then-has+then-has-2+else-not-union, else-has}
use Rattle.pg_graph.proofs.joins.bridges_all.Goals.{else-has-via-then-has+else-has-2}
use Rattle.pg_graph.proofs.joins.bridges_all.Goals.{else-has-via-else-has}

pub loop-k-init : goal.loop-k-init
loop-k-init c =
    let g = c.args.g.now in
    let set = c.args.set.now in
    let members = c.args.members.now in
    record {
      labelled = subst
          (λ (s : ℕ → Bool). IsLabelling (first_end_of g) (second_end_of g) s c.label.new.parents)
          (ap (λ (s : FinSet nat_cmp). contains s) c.without.ensures.difference
          ∙ (contains-difference_outside set members
          ∙ sym (united-begin (contains set) (contains members)))) c.label.ensures;
      bridges = λ f l. absurd (omega arith);
    }

pub returns-then-not-union : goal.returns-then-not-union
returns-then-not-union c =
    let g = c.args.g.now in
    let set = contains c.args.set.now in
    let members = contains c.args.members.now in
    let k = c.loop-k.k in
    let member : members k ≡ true = cc in
    let two = ends_two g (united set members k) k c.loop-k.parents c.ends_of-a.result c.union.result
    c.requires.graph (omega arith)
    (omega arith) c.ends_of-a.ensures.ends c.loop-k.invariant.labelled c.union.ensures.two in (
      λ h. absurd (cc),
      λ all. absurd
          (both_ways _ c.if-not-union.true
          (two.1 (λ j. no_bridge g set members k member j (all k member)))),
    )

pub loop-k-preserved : goal.loop-k-preserved
loop-k-preserved c =
    let g = c.args.g.now in
    let a = first_end_of g in
    let b = second_end_of g in
    let set = contains c.args.set.now in
    let members = contains c.args.members.now in
    let k = c.loop-k.k in
    let i = c.loop-k.invariant in
    let parents = c.loop-k.parents in
    elim c.if-has.branch [
      | then-has+then-has-2+else-not-union w ↦
          let in_set : set k ≡ true = cc in
          let member : members k ≡ true = cc in
          let two = ends_two g
          (united set members k) k parents w.ends_of-a.result w.union.result c.requires.graph
          (omega arith) (omega arith) w.ends_of-a.ensures.ends i.labelled w.union.ensures.two in
          let apart : JoinsEndsOf g (united set members k) k → ⊥ = two.0 (cc) in
          let grown = united-in set members k in_set member in
          record {
            labelled = subst (λ (new : List ℕ). IsLabelling a b (united set members (k + 1)) new)
                (sym w.parents-is)
                (subst (λ (s : ℕ → Bool). IsLabelling a b s w.union.new.parents) grown
                (IsLabelling-joined g (united set members k) k parents w.union.new.parents
                w.ends_of-a.result c.requires.graph (omega arith) (omega arith) (omega arith)
                w.ends_of-a.ensures.ends w.union.ensures.upward w.union.ensures.merged i.labelled));
            bridges =
                λ f l s m. subst (λ (z : ℕ → Bool). IsBridge g z f) grown (elim (cases_eq f k) [
                  | inl e ↦ subst (λ (z : ℕ). IsBridge g (plus (united set members k) k) z) (sym e)
                      (bridge-comes g (united set members k) k apart)
                  | inr d ↦ bridge-stays g (united set members k) k f
                      (united-older set members k f s m (omega arith))
                      (i.bridges f (omega arith) s m) apart
                ]);
          }
      | else-has w ↦
          let out : both set members k ≡ false = false_from_ne_true _ (λ t.
          let p : (set k ≡ true) × (members k ≡ true) = both_parts set members k t in
          elim w.else-has.branch [
            | else-has-via-then-has+else-has-2 w2 ↦
                let absent : members k ≡ false = cc in
                both_ways _ absent p.1
            | else-has-via-else-has w2 ↦ let absent : set k ≡ false = cc in both_ways _ absent p.0
          ]) in
          let same = united-out set members k out in
          record {
            labelled = subst (λ (new : List ℕ). IsLabelling a b (united set members (k + 1)) new)
                (sym w.parents-is)
                (subst (λ (s : ℕ → Bool). IsLabelling a b s parents) same i.labelled);
            bridges =
                λ f l s m. subst (λ (z : ℕ → Bool). IsBridge g z f) same (elim (cases_eq f k) [
                  | inl e ↦ absurd (both_ways _ out
                      (both_from set members k (subst (λ (z : ℕ). set z ≡ true) e s)
                      (subst (λ (z : ℕ). members z ≡ true) e m)))
                  | inr d ↦ i.bridges f (omega arith) s m
                ]);
          }
    ]

pub returns : goal.returns
returns c =
    let g = c.args.g.now in
    let a = first_end_of g in
    let b = second_end_of g in
    let set = contains c.args.set.now in
    let members = contains c.args.members.now in
    let k = c.loop-k.k in
    let i = c.loop-k.invariant in
    let parents = c.loop-k.parents in
    let at_end : k ≡ edge_count g + 1 = omega arith in
    let whole = united-all set members k (λ z h. let low = c.requires.set z h in omega arith) in
    let labelled = subst (λ (s : ℕ → Bool). IsLabelling a b s parents) whole i.labelled in
    let others : contains c.without-2.result ≡ outside members set =
    ap (λ (s : FinSet nat_cmp). contains s) c.without-2.ensures.difference
    ∙ contains-difference_outside c.args.members.now c.args.set.now in (
      λ t f m. elim (cases_Bool (set f)) [
        | inl s ↦
            let low = c.requires.set f s in
            subst (λ (z : ℕ → Bool). IsBridge g z f) whole (i.bridges f (omega arith) s m)
        | inr o ↦ let low = c.requires.members f m in
            outside-bridge g set f (λ j. c.are_apart.ensures.0 t f
            (subst (λ (s : ℕ → Bool). s f ≡ true) (sym others) (outside_from members set f m o))
            ((ends_label g set f parents c.requires.graph (omega arith) (omega arith) labelled).1
            j))
      ],
      λ all. c.are_apart.ensures.1 (λ f w e.
          let p : (members f ≡ true) × (set f ≡ false) =
          outside_parts members set f (subst (λ (s : ℕ → Bool). s f ≡ true) others w) in
          let low = c.requires.members f p.0 in
          bridge-outside g set f p.1 (all f p.0)
          ((ends_label g set f parents c.requires.graph (omega arith) (omega arith) labelled).0 e)),
    )
