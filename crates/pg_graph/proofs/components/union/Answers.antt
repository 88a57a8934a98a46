use Rattle.std.proofs.Common.{◌≡◌, ℕ, List, arith, sym, ◌∙◌, subst, inl, inr}
use Rattle.pg_graph.specs.Labels.{IsMerged}
use Rattle.pg_graph.specs.Roots.{root_of}
use Rattle.pg_graph.proofs.RootLemmas.{root-own}
use Rattle.pg_graph.proofs.StepLemmas.{merged}
use Rattle.pg_graph.proofs.components.union.Goals as goal
use Rattle.pg_graph.proofs.components.union.Goals.{then-a-b, else-a-b}

pub returns-clause-merged : goal.returns-clause-merged
returns-clause-merged c =
    let parents = c.args.parents.now in
    let a = c.find-a.result in
    let b = c.find-b.result in
    let same = c.find-a.ensures.same in
    let same2 = c.find-b.ensures.same in
    let over_v : root_of parents c.args.v ≡ b =
    sym (same c.args.v (omega arith)) ∙ sym c.find-b.ensures.value in
    let root_a : root_of parents a ≡ a =
    sym (same a (omega arith)) ∙ root-own c.find-a.new.parents a c.find-a.ensures.own in
    let root_b : root_of parents b ≡ b = sym (same2 b (omega arith) ∙ same b (omega arith))
    ∙ root-own c.find-b.new.parents b c.find-b.ensures.own in
    elim c.if-a-b.branch [
      | then-a-b w ↦
          subst (λ (new : List ℕ). IsMerged parents new c.args.u c.args.v) (sym w.parents-is)
          (merged parents c.find-b.new.parents c.args.u c.args.v a b c.find-b.ensures.upward
          (omega arith) (λ w l. same2 w (omega arith) ∙ same w l) (omega arith)
          (omega arith) root_a root_b (inl (sym c.find-a.ensures.value, over_v)))
      | else-a-b w ↦
          subst (λ (new : List ℕ). IsMerged parents new c.args.u c.args.v) (sym w.parents-is)
          (merged parents c.find-b.new.parents c.args.u c.args.v b a c.find-b.ensures.upward
          (omega arith) (λ w l. same2 w (omega arith) ∙ same w l) (omega arith)
          (omega arith) root_b root_a (inr (sym c.find-a.ensures.value, over_v)))
    ]
