use Rattle.std.proofs.Common.{◌≤◌, length, arith}
use Rattle.pg_game.proofs.game.Game.points.Goals as goal

pub overflow_cast-result : goal.overflow_cast-result
overflow_cast-result c =
    let few : length c.in-Graph.graph.ends ≤ 1000 =
    (c.args.self.now.fits.within.on_graph c.in-Graph.graph c.in-Graph.is).few_edges in
    rw c.as_slice.ensures (omega arith)

pub returns-in-Lines-clause-few : goal.returns-in-Lines-clause-few
returns-in-Lines-clause-few c =
    let few = (c.args.self.now.fits.within.on_lines c.in-Lines.field c.in-Lines.is).few_points in
    omega arith

pub returns-in-Graph-clause-few : goal.returns-in-Graph-clause-few
returns-in-Graph-clause-few c =
    let few : length c.in-Graph.graph.ends ≤ 1000 =
    (c.args.self.now.fits.within.on_graph c.in-Graph.graph c.in-Graph.is).few_edges in
    rw c.as_slice.ensures (omega arith)
