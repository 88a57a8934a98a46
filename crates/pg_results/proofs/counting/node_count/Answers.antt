use Rattle.std.proofs.Common.{◌≤◌, ◌+◌, List, length, take, sym, ap, subst, arith}
use Rattle.pg_results.proofs.Common.{sum_by-take-le, node_count, Claim, MAX_NODES}
use Rattle.pg_results.proofs.Counts.{counted_more}
use Rattle.pg_results.proofs.counting.node_count.Goals as goal

pub overflow_add-count : goal.overflow_add-count
overflow_add-count c =
    let items = c.as_slice-claim-items.result.now in
    let index = c.loop-claim.claim-index in
    let more =
    counted_more items index c.claim-item.result c.loop-claim-test.true c.claim-item.is in
    let below : node_count (take (index + 1) items) ≤ node_count items =
    sum_by-take-le (λ (claim : Claim). length claim.nodes) items (index + 1) in
    let few : node_count items ≤ MAX_NODES =
    subst (λ (claims : List Claim). node_count claims ≤ MAX_NODES)
    (sym c.as_slice-claim-items.ensures) c.requires in
    let nodes = ap length c.as_slice.ensures in
    let count = c.loop-claim.invariant in
    omega (arith, more, below, few, nodes, count)

pub loop-claim-preserved : goal.loop-claim-preserved
loop-claim-preserved c =
    let more = counted_more c.as_slice-claim-items.result.now c.loop-claim.claim-index
    c.claim-item.result c.loop-claim-test.true c.claim-item.is in
    let nodes = ap length c.as_slice.ensures in
    let count = c.loop-claim.invariant in
    omega (arith, more, nodes, count)
