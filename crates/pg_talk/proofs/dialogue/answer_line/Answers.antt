use Rattle.std.proofs.Common.{◌≤◌, sym, arith}
use Rattle.pg_talk.proofs.Turns.{beyond_stage}
use Rattle.pg_talk.proofs.dialogue.answer_line.Goals as goal

pub returns-in-Err-clause-talk : goal.returns-in-Err-clause-talk
returns-in-Err-clause-talk g c =
    let old = g.P.Contestant.contender c.args.player.now in
    let great : old.contest.rules.points ≤ c.in-Some.number =
    omega (arith, g.met.P.Contestant.small c.args.player.now, c.in-Err.ensures) in
    λ refused. rw (beyond_stage old _ c.in-Some.number refused (sym c.in-Some.ensures) great)
    (c.refuse-in-Err.ensures.talk old.contest old.side old.position refused)
