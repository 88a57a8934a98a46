use Rattle.std.proofs.Common.{◌≡◌, true, false, arith, sym, ◌∙◌, subst, inl, inr}
use Rattle.pg_graph.proofs.Common.{cases_eq, both_ways, contains}
use Rattle.pg_graph.specs.Graph.{first_end_of, second_end_of}
use Rattle.pg_graph.specs.Joiner.{Crosses}
use Rattle.pg_graph.specs.Labels.{IsLabelling}
use Rattle.pg_graph.specs.Roots.{root_of}
use Rattle.pg_graph.proofs.GraphLemmas.{ends_in_range}
use Rattle.pg_graph.proofs.StepLemmas.{IsLabelling-same}
use Rattle.pg_graph.proofs.SplitLemmas.{crosses_split, split_crosses}
use Rattle.pg_graph.proofs.joins.crossing.Goals as goal
use Rattle.pg_graph.proofs.joins.crossing.Goals.{then-has+else-is_split, else-has}

pub loop-k-init : goal.loop-k-init
loop-k-init c =
    let g = c.args.g.now in
    record {
      labelled = IsLabelling-same (first_end_of g) (second_end_of g)
          (contains c.args.set.now) c.label.new.parents c.find-inside.new.parents
          (omega arith) c.find-inside.ensures.upward c.find-inside.ensures.same c.label.ensures;
      inside = c.find-inside.ensures.same c.args.u (omega arith) ∙ sym c.find-inside.ensures.value;
      none = λ j l. absurd (omega arith);
    }

pub returns-then-is_split-clause-lowest : goal.returns-then-is_split-clause-lowest
returns-then-is_split-clause-lowest c =
    let g = c.args.g.now in
    let k = c.loop-k.k in
    let range = ends_in_range g k c.requires.graph (omega arith) in
    record {
      candidate = cc;
      fact = crosses_split g (contains c.args.set.now) c.loop-k.parents c.args.u
          c.find-inside.result c.loop-k.invariant.labelled (omega arith) c.loop-k.invariant.inside k
          (omega (arith, range.0)) (omega (arith, range.1))
          (c.is_split.ensures.split.0 c.if-is_split.true);
      lowest = c.loop-k.invariant.none;
    }

pub loop-k-preserved : goal.loop-k-preserved
loop-k-preserved c =
    let g = c.args.g.now in
    let k = c.loop-k.k in
    let i = c.loop-k.invariant in
    let set = contains c.args.set.now in
    let parents = c.loop-k.parents in
    elim c.if-has.branch [
      | then-has+else-is_split w ↦
          let range = ends_in_range g k c.requires.graph (omega arith) in
          let out : Crosses g set c.args.u k → ⊥ = λ x. both_ways _ w.if-is_split.false
          (w.is_split.ensures.split.1
          (split_crosses g set parents c.args.u c.find-inside.result i.labelled
          (omega arith) i.inside k (omega (arith, range.0)) (omega (arith, range.1)) x)) in
          record {
            labelled = subst (λ new. IsLabelling (first_end_of g) (second_end_of g) set new)
                (sym w.parents-is)
                (IsLabelling-same (first_end_of g)
                (second_end_of g) set parents w.is_split.new.parents
                (omega arith) w.is_split.ensures.upward w.is_split.ensures.same i.labelled);
            inside = subst (λ new. root_of new c.args.u ≡ c.find-inside.result) (sym w.parents-is)
                (w.is_split.ensures.same c.args.u (omega arith) ∙ i.inside);
            none = λ j l t x. elim (cases_eq j k) [
              | inl e ↦ out (subst (λ z. Crosses g set c.args.u z) e x)
              | inr d ↦ i.none j (omega arith) t x
            ];
          }
      | else-has w ↦
          let absent : contains c.args.candidates.now k ≡ false = cc in
          record {
            labelled = subst (λ new. IsLabelling (first_end_of g) (second_end_of g) set new)
                (sym w.parents-is) i.labelled;
            inside = subst (λ new. root_of new c.args.u ≡ c.find-inside.result)
                (sym w.parents-is) i.inside;
            none = λ j l t x. elim (cases_eq j k) [
              | inl e ↦
                  both_ways _ absent (subst (λ z. contains c.args.candidates.now z ≡ true) e t)
              | inr d ↦ i.none j (omega arith) t x
            ];
          }
    ]
