use Rattle.pg_vec_player.proofs.JudgeLemmas.{joined-is}
use Rattle.pg_vec_player.proofs.judge.joined.Goals as goal

pub returns : goal.returns
returns c = joined-is c.args.p.now c.args.set.now c.take.new.self c.union.result c.args.x
    c.take.ensures c.union.ensures.union
