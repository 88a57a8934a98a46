use Rattle.std.proofs.Common.{List, arith, subst, take}
use Rattle.pg_image.specs.Limits.{IsImageNode}
use Rattle.pg_image.specs.declared.node.ImageNode.{ImageNode}
use Rattle.pg_join.proofs.Common.{All, All-more, take_all}
use Rattle.pg_join.proofs.limits.are_nodes.Goals as goal

pub loop-node-preserved : goal.loop-node-preserved
loop-node-preserved c = All-more IsImageNode c.args.nodes.now c.loop-node.node-index
    c.node-item.result c.loop-node-test.true c.loop-node.invariant
    (subst (λ (n : ImageNode). IsImageNode n) c.node-item.is
    (c.is_node.ensures c.if-not-is_node.false))

pub returns : goal.returns
returns c = λ _. subst (λ (ns : List ImageNode). All IsImageNode ns)
    (take_all c.loop-node.node-index c.args.nodes.now (omega (arith, c.loop-node-test.false)))
    c.loop-node.invariant
