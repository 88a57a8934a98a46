use Rattle.pg_drawing.proofs.Nodes.{has_first}
use Rattle.pg_drawing.proofs.vectors.faulty.Goals as goal

pub unreachable-requires : goal.unreachable-requires
unreachable-requires c = has_first c.args.cert.now c.args.name c.requires.first.faulty
    c.requires.limits c.requires.first.claim_at c.requires.first.node_first
    (rw c.in_default.is at c.in_ok-words.ensures.none)
