-- The nodes that show answers.
use Rattle.std.specs.Prelude.{Bool, true, false, List}
use Rattle.pg_cert.specs.declared.node.Node.{Node}
use Rattle.pg_met.specs.declared.claims.Claims.{Claims}

abbrev pub nodes_of : Claims → Bool → List Node
nodes_of c true = c.yes.items
nodes_of c false = c.no.items
