use Rattle.std.proofs.Common.{◌<◌, length, get_or, refl, false, arith}
use Rattle.std.proofs.lemmas.Option.{slice_get_read, slice_get-get_or}
use Rattle.pg_leaf.proofs.KeptNodes.{pruned-step}
use Rattle.pg_leaf.proofs.pruning.marked_nodes.Goals as goal

pub loop-k-preserved : goal.loop-k-preserved
loop-k-preserved c =
    let nodes = c.args.nodes.now in
    let n = c.index-nodes-k.result in
    let low = c.loop-k-test.true in
    let at = slice_get_read nodes (length nodes) c.loop-k.k n refl low c.index-nodes-k.is in
    let within : c.loop-k.k < length c.args.marks.now =
    omega (arith, low, c.requires.marks.count) in
    pruned-step nodes c.args.marks.now c.loop-k.k c.loop-k.numbers.items
    c.keep_node.new.numbers.items c.loop-k.out.items c.keep_node.new.out.items n
    (get_or c.args.marks.now c.loop-k.k false) at
    (slice_get-get_or c.args.marks.now c.loop-k.k false within) c.requires.marks
    (c.requires.earlier c.loop-k.k n at)
    (omega (arith, low, c.requires.few)) c.loop-k.invariant c.in_ok-keep_node.ensures
