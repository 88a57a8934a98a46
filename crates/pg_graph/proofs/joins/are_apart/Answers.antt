use Rattle.std.proofs.Common.{◌≡◌, ℕ, true, false, arith, sym, ◌∙◌, subst, inl, inr}
use Rattle.pg_graph.proofs.Common.{cases_eq, both_ways, contains}
use Rattle.pg_graph.specs.Graph.{first_end_of, second_end_of}
use Rattle.pg_graph.specs.Labels.{HaveOneRoot}
use Rattle.pg_graph.specs.Roots.{IsUpward, SameRoots}
use Rattle.pg_graph.proofs.GraphLemmas.{ends_in_range}
use Rattle.pg_graph.proofs.joins.are_apart.Goals as goal
use Rattle.pg_graph.proofs.joins.are_apart.Goals.{then-has+else-has_one_root, else-has}

pub returns-then-has_one_root : goal.returns-then-has_one_root
returns-then-has_one_root c =
    let g = c.args.g.now in
    let k = c.loop-k.k in
    let i = c.loop-k.invariant in
    let member : contains c.args.members.now k ≡ true = cc in
    let range = ends_in_range g k c.requires.graph (omega arith) in
    let one = c.has_one_root.ensures.one.0 c.if-has_one_root.true in (
      λ h. absurd (cc),
      λ all. absurd (all k member (sym (i.same (first_end_of g k) (omega (arith, range.0)))
          ∙ (one ∙ i.same (second_end_of g k) (omega (arith, range.1))))),
    )

pub loop-k-preserved : goal.loop-k-preserved
loop-k-preserved c =
    let g = c.args.g.now in
    let a = first_end_of g in
    let b = second_end_of g in
    let k = c.loop-k.k in
    let i = c.loop-k.invariant in
    let old = c.args.parents.now in
    elim c.if-has.branch [
      | then-has+else-has_one_root w ↦
          let range = ends_in_range g k c.requires.graph (omega arith) in
          let here : HaveOneRoot g old k → ⊥ = λ e. both_ways _ w.if-has_one_root.false
          (w.has_one_root.ensures.one.1 (i.same (a k) (omega (
            arith,
            range.0,
          )) ∙ (e ∙ sym (i.same (b k) (omega (arith, range.1)))))) in
          record {
            upward = subst (λ new. IsUpward new) (sym w.parents-is) w.has_one_root.ensures.upward;
            same = subst (λ new. SameRoots old new) (sym w.parents-is)
                (λ v l. w.has_one_root.ensures.same v (omega arith) ∙ i.same v l);
            each = λ f l m. elim (cases_eq f k) [
              | inl e ↦ subst (λ (z : ℕ). HaveOneRoot g old z → ⊥) (sym e) here
              | inr d ↦ i.each f (omega arith) m
            ];
          }
      | else-has w ↦
          let absent : contains c.args.members.now k ≡ false = cc in
          record {
            upward = subst (λ new. IsUpward new) (sym w.parents-is) i.upward;
            same = subst (λ new. SameRoots old new) (sym w.parents-is) i.same;
            each = λ f l m. elim (cases_eq f k) [
              | inl e ↦ absurd
                  (both_ways _ absent (subst (λ (z : ℕ). contains c.args.members.now z ≡ true) e m))
              | inr d ↦ i.each f (omega arith) m
            ];
          }
    ]
