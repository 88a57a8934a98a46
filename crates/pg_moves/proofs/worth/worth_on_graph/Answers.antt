use Rattle.std.proofs.Common.{refl}
use Rattle.pg_moves.proofs.worth.worth_on_graph.Goals as goal

pub node_count-nodes-requires : goal.node_count-nodes-requires
node_count-nodes-requires c = c.in_ok-found.ensures.shows.limits.nodes

pub returns : goal.returns
returns c = (
  c.in_ok-found.found.0,
  c.in_ok-found.found.1,
  c.in_ok-found.ensures,
  c.class_score-score.ensures,
  c.node_count-nodes.ensures,
  refl,
)
