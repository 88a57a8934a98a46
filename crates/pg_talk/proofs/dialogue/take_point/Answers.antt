use Rattle.std.proofs.Common.{Some, ℕ}
use Rattle.std.proofs.lemmas.Result.{err_from_is_err_and}
use Rattle.pg_talk.specs.Talk.{answered}
use Rattle.pg_talk.proofs.Talking.{Breaks-here}
use Rattle.pg_talk.proofs.Turns.{Talk-answered, answered_goes, reply_is_open, taken_goes}
use Rattle.pg_talk.proofs.dialogue.take_point.Goals as goal

pub returns-in_err-say-in-Ok-Some-clause-talk : goal.returns-in_err-say-in-Ok-Some-clause-talk
returns-in_err-say-in-Ok-Some-clause-talk g c =
    let e = err_from_is_err_and c.from_residual.result c.from_residual.ensures.1 in
    let old = g.P.Contestant.contender c.args.player.now in
    let stage = λ (refused : ℕ). answered old refused (Some c.args.v) in
    λ refused. rw e.1
    (Breaks-here old.contest old.side _ _ (stage refused)
    (reply_is_open old.contest old.position refused _) c.in_err-say-in-Ok-Some.ensures.said)

pub returns-in_ok-say-in-Ok-Some-clause-talk : goal.returns-in_ok-say-in-Ok-Some-clause-talk
returns-in_ok-say-in-Ok-Some-clause-talk g c =
    let made = rw c.in-Ok-Some.field-0-is at c.in-Ok-Some.ensures.answered in
    λ refused. Talk-answered _ made.0 _ c.args.v c.in-Ok-Some.own refused _ _ made.1 made.2
    c.in_ok-say-in-Ok-Some.ensures.said c.in_ok-say-in-Ok-Some.ensures.left

pub returns-in_ok-say-in-Ok-Some-clause-goes : goal.returns-in_ok-say-in-Ok-Some-clause-goes
returns-in_ok-say-in-Ok-Some-clause-goes g c =
    let made = rw c.in-Ok-Some.field-0-is at c.in-Ok-Some.ensures.answered in
    answered_goes _ made.0 _ c.args.v c.in-Ok-Some.own made.1 made.2

pub returns-in-Ok-None-clause-goes : goal.returns-in-Ok-None-clause-goes
returns-in-Ok-None-clause-goes g c =
    let taken = rw c.in-Ok-None.field-0-is at c.in-Ok-None.ensures.answered in
    taken_goes _ _ c.args.v taken.0
