use Rattle.std.proofs.Common.{List, length, sym, ap, subst, arith}
use Rattle.pg_cert.specs.declared.node.Node.{Node}
use Rattle.pg_fold.specs.Places.{HaveDifferent}
use Rattle.pg_fold.proofs.Steps.{claim-different, claim-made}
use Rattle.pg_fold.proofs.folding.fold_claim.Goals as goal

pub fold_nodes-requires-clause-few : goal.fold_nodes-requires-clause-few
fold_nodes-requires-clause-few c =
    let same = ap (λ (ns : List Node). length ns) c.as_slice.ensures in
    omega (arith, same, c.requires.limits.few)

pub returns : goal.returns
returns c = λ g tables can.
    let have = subst (λ (ns : List Node). HaveDifferent g ns) (sym c.as_slice.ensures)
    (claim-different g c.args.claim.now can.valid c.requires.limits can.differ) in
    claim-made g c.args.claim.now c.as_slice.result.now c.in_ok-nodes.nodes.items c.from_vec.result
    c.as_slice.ensures c.from_vec.ensures (c.in_ok-nodes.ensures g tables have)
