use Rattle.pg_vec_player.proofs.JudgeLemmas.{kept-is}
use Rattle.pg_vec_player.proofs.judge.kept.Goals as goal

pub returns : goal.returns
returns c = kept-is c.args.p.now c.all_below.result c.without.result c.args.limit
    c.all_below.ensures c.without.ensures.members
