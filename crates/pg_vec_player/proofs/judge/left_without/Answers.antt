use Rattle.std.proofs.Common.{◌+◌, arith}
use Rattle.pg_vec_player.proofs.JudgeLemmas.{left-is}
use Rattle.pg_vec_player.proofs.judge.left_without.Goals as goal

pub returns : goal.returns
returns c = left-is c.args.p.now c.args.n (c.args.n + 1) c.args.set.now c.kept.result
    c.without.result (omega arith) c.kept.ensures c.without.ensures.difference
