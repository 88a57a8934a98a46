use Rattle.std.proofs.Common.{◌≤◌, length, arith}
use Rattle.pg_game.proofs.fit.points_of.Goals as goal

pub overflow_cast-result : goal.overflow_cast-result
overflow_cast-result c =
    let few : length c.in-Graph.graph.ends ≤ 1000 =
    (c.requires c.in-Graph.graph c.in-Graph.is).few_edges in
    rw c.as_slice.ensures (omega arith)
