use Rattle.pg_player.proofs.Going.{answered}
use Rattle.pg_player.proofs.player.Player.answer.Goals as goal

pub returns-clause-answered : goal.returns-clause-answered
returns-clause-answered c = answered c.args.self.now c.take_reply.new.self c.first.new.self c.args.v
    c.first.result c.in_ok-take_reply.ensures.taken c.first.ensures
