use Rattle.std.proofs.Common.{◌≡◌, ℕ, Bool, subst}
use Rattle.pg_exchange.proofs.Common.{contains, IsBase, swapped, IsBase-swap, circuit_parts}
use Rattle.pg_exchange.specs.Forest.{graph_matroid}
use Rattle.pg_exchange.specs.ForestLaws.{IsSpan-graph_matroid, small_edges}
use Rattle.pg_exchange.proofs.Tests.{with_point, without_point}
use Rattle.pg_exchange.proofs.graph_ground.GraphGroundGround.swap.Goals as goal

pub take-requires : goal.take-requires
take-requires c =
    let s = c.args.self.now in
    small_edges s.graph (contains s.elements) s.fits s.element_edges c.args.out
    (s.is_forest.within c.args.out
    (circuit_parts _ _ c.args.into c.args.out c.requires.exchanges).0)

pub put-requires : goal.put-requires
put-requires c =
    let s = c.args.self.now in
    small_edges s.graph (contains s.elements) s.fits s.element_edges c.args.into c.requires.element

pub returns-clause-exchanged : goal.returns-clause-exchanged
unfolding swapped
returns-clause-exchanged c = cc (
  with_point c.take.new.self c.put.new.self c.args.into c.put.ensures,
  without_point c.args.self.now.base c.take.new.self c.args.out c.take.ensures,
)

pub invariant_of-self : goal.invariant_of-self
unfolding swapped
invariant_of-self c =
    let s = c.args.self.now in
    let m = graph_matroid s.graph (contains s.x) (contains s.elements) in
    let p = circuit_parts m.spans (contains s.base) c.args.into c.args.out c.requires.exchanges in
    let e : swapped (contains s.base) c.args.out c.args.into ≡ contains c.put.new.self = cc (
      with_point c.take.new.self c.put.new.self c.args.into c.put.ensures,
      without_point c.args.self.now.base c.take.new.self c.args.out c.take.ensures,
    ) in
    record {
      fits = s.fits;
      few = s.few;
      labelled = s.labelled;
      starred = s.starred;
      steps_size = s.steps_size;
      x_edges = s.x_edges;
      element_edges = s.element_edges;
      is_forest = subst (λ (k : ℕ → Bool). IsBase m.spans (contains s.elements) k) e
          (IsBase-swap m.spans (IsSpan-graph_matroid s.graph (contains s.x) (contains s.elements))
          (contains s.elements)
          (contains s.base) c.args.out c.args.into s.is_forest c.requires.element p.0 p.1);
    }
