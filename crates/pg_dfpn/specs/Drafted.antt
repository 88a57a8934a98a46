-- Nodes within the limits of version 1 of the format.
use Rattle.std.specs.Prelude.{◌≡◌, ◌≤◌, true, List, length}
use Rattle.pg_dfpn.specs.Prelude.{All, Body, IsBody, IsNode, MAX_CLAIM_NODES, Node, One, has_body}

-- a body of version 1
pub record IsPlainBody (body : Body) : Type 0 where
  pub range : IsBody body
  pub version : has_body One body ≡ true

-- no more nodes than a claim may have, and each within the limits of version 1
pub record AreFit (nodes : List Node) : Type 0 where
  pub few : length nodes ≤ MAX_CLAIM_NODES
  pub each : All IsNode nodes
  pub version : All (λ (n : Node). has_body One n.body ≡ true) nodes
