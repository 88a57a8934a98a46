use Rattle.std.proofs.Common.{◌≡◌, ◌∙◌, List, Some, slice_get, length, refl, sym, ap, subst, arith}
use Rattle.pg_sessions.proofs.Common.{false≢true, slice_get_within, Node}
use Rattle.pg_sessions.proofs.Nodes.{none-more, read-at}
use Rattle.pg_sessions.proofs.known.has_node.Goals as goal

pub returns-then-is_same : goal.returns-then-is_same
returns-then-is_same c =
    let items = c.as_slice-node-items in
    let node = c.node-item.result in
    let at =
    subst (λ (nodes : List Node). slice_get nodes c.loop-node.node-index ≡ Some node) items.ensures
    (read-at items.result.now c.loop-node.node-index node c.loop-node-test.true c.node-item.is) in (
      λ _. (
        c.loop-node.node-index,
        record {
          node = node;
          at = at;
          position = sym c.position.ensures ∙ c.is_same.ensures.0 c.if-is_same.true;
        },
      ),
      λ _. refl,
    )

pub loop-node-init : goal.loop-node-init
loop-node-init c = λ k n low. absurd (omega (arith, low))

pub loop-node-preserved : goal.loop-node-preserved
loop-node-preserved c =
    let items = c.as_slice-node-items in
    let node = c.node-item.result in
    let at =
    subst (λ (nodes : List Node). slice_get nodes c.loop-node.node-index ≡ Some node) items.ensures
    (read-at items.result.now c.loop-node.node-index node c.loop-node-test.true c.node-item.is) in
    none-more c.args.claim.now.nodes c.args.position.now c.loop-node.node-index node
    c.loop-node.invariant at
    (λ e. false≢true (sym c.if-is_same.false ∙ c.is_same.ensures.1 (c.position.ensures ∙ e)))

pub returns : goal.returns
returns c = (
  λ e. absurd (false≢true e),
  λ has.
      let within = slice_get_within c.args.claim.now.nodes has.0 has.1.node has.1.at in
      absurd (c.loop-node.invariant has.0 has.1.node (omega (
        arith,
        within,
        ap length c.as_slice-node-items.ensures,
      )) has.1.at has.1.position),
)
