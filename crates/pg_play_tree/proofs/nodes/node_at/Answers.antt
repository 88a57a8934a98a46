use Rattle.pg_play_tree.proofs.Mirrors.{position_marked}
use Rattle.pg_play_tree.proofs.nodes.node_at.Goals as goal

pub returns-clause-limits : goal.returns-clause-limits
returns-clause-limits c =
    let marked = position_marked c.args.game.now c.args.place.now.position
    c.requires.place.position in
    record {
      x = marked.x;
      y = marked.y;
      apart = marked.apart;
      turn = marked.turn;
      body = c.in_ok-body.ensures.limits;
    }
