use Rattle.pg_check.proofs.Common.{after, kept}
use Rattle.pg_check.proofs.KnownNodes.{bare-iff}
use Rattle.pg_check.proofs.moves.is_node_after.Goals as goal

pub returns : goal.returns
returns c =
    let iff = bare-iff (kept c.args.marks.now) c.args.child
    (after c.args.g.now c.args.p.now c.args.point) in
    (λ on. iff.0 (c.is_after.ensures.0 on), λ h. c.is_after.ensures.1 (iff.1 h))
