use Rattle.std.proofs.Common.{[]}
use Rattle.pg_dfpn.proofs.Within.{pairs-plain}
use Rattle.pg_dfpn.proofs.judging.judge.Goals as goal

pub returns-in-Some-clause-body : goal.returns-in-Some-clause-body
returns-in-Some-clause-body c =
    let shown = rw c.in-Some.is at c.in_ok-found.ensures.body in
    let holds = shown.holds [] 0 in
    record { range = holds.range; version = holds.owes.version }

pub returns-in-Some-2-clause-body : goal.returns-in-Some-2-clause-body
returns-in-Some-2-clause-body c =
    pairs-plain c.args.asked.game.now c.position-p.result c.defender-side.result
    c.in-Some-2.pairs.items c.from_vec.result (rw c.in-Some-2.is at c.in_ok-pairs.ensures)
    c.from_vec.ensures
