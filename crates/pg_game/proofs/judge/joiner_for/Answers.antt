use Rattle.pg_game.proofs.Outcomes.{IsGraph-board}
use Rattle.pg_game.proofs.judge.joiner_for.Goals as goal

pub new-requires : goal.new-requires
new-requires c = record {
  graph = IsGraph-board c.in-Graph.graph
      (c.args.g.now.fits.within.on_graph c.in-Graph.graph c.in-Graph.is);
}
