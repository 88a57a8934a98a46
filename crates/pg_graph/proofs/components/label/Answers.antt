use Rattle.std.proofs.Common.{◌≡◌, ◌+◌, arith, subst, sym}
use Rattle.pg_graph.proofs.Common.{false_from_ne_true, contains, below, below_parts, below_from}
use Rattle.pg_graph.proofs.Common.{below_in, below_out, same_sets}
use Rattle.pg_graph.specs.Graph.{edge_count, first_end_of, second_end_of}
use Rattle.pg_graph.specs.Labels.{IsLabelling}
use Rattle.pg_graph.proofs.StepLemmas.{IsLabelling-begin, IsLabelling-joined}
use Rattle.pg_graph.proofs.components.label.Goals as goal
use Rattle.pg_graph.proofs.components.label.Goals.{then-has, else-has}

pub loop-k-init : goal.loop-k-init
loop-k-init c =
    let set = contains c.args.set.now in
    IsLabelling-begin (first_end_of c.args.g.now) (second_end_of c.args.g.now)
    (below set 0) c.part_all.new.parents
    (λ k. false_from_ne_true _ (λ h. let low = (below_parts set 0 k h).1 in absurd (omega arith)))
    (λ v l. c.part_all.ensures v (omega arith))

pub loop-k-preserved : goal.loop-k-preserved
loop-k-preserved c =
    let g = c.args.g.now in
    let set = contains c.args.set.now in
    let k = c.loop-k.k in
    elim c.if-has.branch [
      | then-has w ↦
          subst (λ new. IsLabelling (first_end_of g) (second_end_of g) (below set (k + 1)) new)
          (sym w.parents-is)
          (subst (λ s. IsLabelling (first_end_of g) (second_end_of g) s w.union.new.parents)
          (below_in set k (cc)) (IsLabelling-joined g
          (below set k) k c.loop-k.parents w.union.new.parents w.ends_of-a.result c.requires.graph
          (omega arith) (omega arith) (omega arith) w.ends_of-a.ensures.ends w.union.ensures.upward
          w.union.ensures.merged c.loop-k.invariant))
      | else-has w ↦
          subst (λ new. IsLabelling (first_end_of g) (second_end_of g) (below set (k + 1)) new)
          (sym w.parents-is)
          (subst (λ s. IsLabelling (first_end_of g) (second_end_of g) s c.loop-k.parents)
          (below_out set k (cc)) c.loop-k.invariant)
    ]

pub returns : goal.returns
returns c =
    let g = c.args.g.now in
    let set = contains c.args.set.now in
    let k : c.loop-k.k ≡ edge_count g + 1 = omega arith in
    subst (λ s. IsLabelling (first_end_of g) (second_end_of g) s c.loop-k.parents)
    (same_sets (below set c.loop-k.k) set (λ z h. (below_parts set c.loop-k.k z h).0)
    (λ z h. let low = c.requires.set z h in below_from set c.loop-k.k z h (omega arith)))
    c.loop-k.invariant
