use Rattle.std.proofs.Common.{◌-◌, List, length, sym, subst}
use Rattle.pg_cert.specs.declared.node.Node.{Node}
use Rattle.pg_player.specs.Stand.{Settles}
use Rattle.pg_player.proofs.standing.root.Goals as goal

pub arrive-requires : goal.arrive-requires
arrive-requires c = subst (λ (nodes : List Node). Settles c.args.claim.now.nodes (length nodes - 1))
    (sym c.as_slice.ensures) c.requires.settles
