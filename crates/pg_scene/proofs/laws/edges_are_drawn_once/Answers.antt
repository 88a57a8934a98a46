use Rattle.std.proofs.Common.{ap}
use Rattle.pg_scene.proofs.Common.{position_of, Claim, Body}
use Rattle.pg_scene.specs.Items.{body_items}
use Rattle.pg_scene.proofs.ReadBack.{edges-node}
use Rattle.pg_scene.proofs.laws.edges_are_drawn_once.Goals as goal

pub returns-clause-trees : goal.returns-clause-trees
returns-clause-trees c = λ look g (claim : Claim) k node fault scene is with_e first second
    body.
    edges-node look g claim k node fault scene is with_e first second
    (ap (λ (b : Body). body_items g (position_of node) claim.side b) body)

pub returns-clause-cuts : goal.returns-clause-cuts
returns-clause-cuts c = λ look g (claim : Claim) k node fault scene is with_e first second
    body.
    edges-node look g claim k node fault scene is with_e first second
    (ap (λ (b : Body). body_items g (position_of node) claim.side b) body)
