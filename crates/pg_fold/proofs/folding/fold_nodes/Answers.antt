use Rattle.std.proofs.Common.{List, [], length, sym, ap, refl, subst, arith}
use Rattle.pg_fold.proofs.Common.{take_all, slice_get_read, get, Node, equal_positions, ImageNode}
use Rattle.pg_fold.specs.Places.{AreAllFolded, AreFolded}
use Rattle.pg_fold.proofs.Steps.{folded-none, folded-step}
use Rattle.pg_fold.proofs.folding.fold_nodes.Goals as goal

pub loop-node-init : goal.loop-node-init
loop-node-init c = record {
  known = c.in_ok-known.ensures.known;
  count = ap length c.in_ok-folded.ensures.items;
  folded = λ g tables have. subst
      (λ (xs : List ImageNode). AreFolded g [] (get equal_positions c.in_ok-known.known.places) xs)
      (sym c.in_ok-folded.ensures.items)
      (folded-none g (get equal_positions c.in_ok-known.known.places) c.in_ok-known.ensures.empty);
}

pub fold_node-requires-clause-few : goal.fold_node-requires-clause-few
fold_node-requires-clause-few c =
    omega (arith, c.loop-node.invariant.count, c.loop-node-test.true, c.requires.few)

pub loop-node-preserved : goal.loop-node-preserved
loop-node-preserved c =
    let nodes = c.args.nodes.now in
    let n = c.node-item.result in
    let at = slice_get_read nodes
    (length nodes) c.loop-node.node-index n refl c.loop-node-test.true c.node-item.is in
    let count = c.in_ok-fold_node.ensures.count in
    record {
      known = c.in_ok-fold_node.ensures.known;
      count = omega (arith, count, c.loop-node.invariant.count);
      folded = λ g tables have. folded-step g nodes c.loop-node.node-index n
          (get equal_positions c.loop-node.known.places)
          (get equal_positions c.fold_node.new.known.places) c.loop-node.folded.items
          c.fold_node.new.folded.items at have (c.in_ok-fold_node.ensures.folded g tables)
          (c.loop-node.invariant.folded g tables have);
    }

pub returns : goal.returns
returns c = λ g tables have. subst (λ (ns : List Node). AreAllFolded g ns c.loop-node.folded.items)
    (take_all c.loop-node.node-index c.args.nodes.now c.loop-node-test.false)
    (c.loop-node.invariant.folded g tables have).all
