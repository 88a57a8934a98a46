-- Nodes within the limits of version 2 of the format.
use Rattle.std.specs.Prelude.{◌≤◌, List, length}
use Rattle.pg_zone_proofs.specs.Prelude.{All, IsBody, IsNode, MAX_CLAIM_NODES, Node}
use Rattle.pg_zone_proofs.specs.declared.drafting.Outcome.{Outcome}
use Rattle.pg_zone_proofs.specs.declared.drafting.Outcome.TheVariants as outcomes

-- no more nodes than a claim may have, and each within the limits
pub record AreFit (nodes : List Node) : Type 0 where
  pub few : length nodes ≤ MAX_CLAIM_NODES
  pub each : All IsNode nodes

-- a body that comes is within the limits
abbrev pub IfBody : Outcome → Type 0
IfBody (outcomes.Body body) = IsBody body
IfBody (outcomes.Way way) = Unit {0}
IfBody (outcomes.First task) = Unit {0}
IfBody outcomes.Stuck = Unit {0}
