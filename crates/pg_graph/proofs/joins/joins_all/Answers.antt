use Rattle.std.proofs.Common.{◌≡◌, ℕ, true, false, arith, sym, subst, inl, inr}
use Rattle.pg_graph.proofs.Common.{cases_eq, both_ways, contains}
use Rattle.pg_graph.specs.Graph.{JoinsEndsOf, first_end_of, second_end_of}
use Rattle.pg_graph.specs.Labels.{IsLabelling}
use Rattle.pg_graph.proofs.StepLemmas.{IsLabelling-same, ends_label}
use Rattle.pg_graph.proofs.joins.joins_all.Goals as goal
use Rattle.pg_graph.proofs.joins.joins_all.Goals.{then-has+else-not-has_one_root, else-has}

pub returns-then-not-has_one_root : goal.returns-then-not-has_one_root
returns-then-not-has_one_root c =
    let k = c.loop-k.k in
    let member : contains c.args.members.now k ≡ true = cc in
    let label = ends_label c.args.g.now (contains c.args.set.now) k c.loop-k.parents
    c.requires.graph (omega arith) (omega arith) c.loop-k.invariant.labelled in (
      λ h. absurd (cc),
      λ all. absurd
          (both_ways _ c.if-not-has_one_root.true
          (c.has_one_root.ensures.one.1 (label.1 (all k member)))),
    )

pub loop-k-preserved : goal.loop-k-preserved
loop-k-preserved c =
    let g = c.args.g.now in
    let a = first_end_of g in
    let b = second_end_of g in
    let k = c.loop-k.k in
    let i = c.loop-k.invariant in
    let set = contains c.args.set.now in
    let parents = c.loop-k.parents in
    elim c.if-has.branch [
      | then-has+else-not-has_one_root w ↦
          let here : JoinsEndsOf g set k =
          (ends_label g set k parents c.requires.graph (omega arith) (omega arith) i.labelled).0
          (w.has_one_root.ensures.one.0 (cc)) in
          record {
            labelled = subst (λ new. IsLabelling a b set new) (sym w.parents-is)
                (IsLabelling-same a b set parents w.has_one_root.new.parents
                (omega arith) w.has_one_root.ensures.upward w.has_one_root.ensures.same i.labelled);
            each = λ f l m. elim (cases_eq f k) [
              | inl e ↦ subst (λ (z : ℕ). JoinsEndsOf g set z) (sym e) here
              | inr d ↦ i.each f (omega arith) m
            ];
          }
      | else-has w ↦
          let absent : contains c.args.members.now k ≡ false = cc in
          record {
            labelled = subst (λ new. IsLabelling a b set new) (sym w.parents-is) i.labelled;
            each = λ f l m. elim (cases_eq f k) [
              | inl e ↦ absurd
                  (both_ways _ absent (subst (λ (z : ℕ). contains c.args.members.now z ≡ true) e m))
              | inr d ↦ i.each f (omega arith) m
            ];
          }
    ]
