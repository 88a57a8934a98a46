use Rattle.std.proofs.lemmas.Result.{err_from_is_err_and}
use Rattle.pg_talk.specs.Dialogue.{At}
use Rattle.pg_talk.proofs.Talking.{Breaks-here}
use Rattle.pg_talk.proofs.Turns.{Talk-moved, moved_goes}
use Rattle.pg_talk.proofs.dialogue.take_turn.Goals as goal

pub returns-in_err-say-in-Some-clause-talk : goal.returns-in_err-say-in-Some-clause-talk
returns-in_err-say-in-Some-clause-talk g c =
    let e = err_from_is_err_and c.from_residual.result c.from_residual.ensures.1 in
    let old = g.P.Contestant.contender c.args.player.now in
    λ refused. rw e.1
    (Breaks-here old.contest old.side _ _
    (At old.position refused) tt c.in_err-say-in-Some.ensures.said)

pub returns-in_ok-say-in-Some-clause-talk : goal.returns-in_ok-say-in-Some-clause-talk
returns-in_ok-say-in-Some-clause-talk g c = λ refused. Talk-moved _ _ _ refused _ _
    c.in-Some.ensures c.in_ok-say-in-Some.ensures.said c.in_ok-say-in-Some.ensures.left

pub returns-in_ok-say-in-Some-clause-goes : goal.returns-in_ok-say-in-Some-clause-goes
returns-in_ok-say-in-Some-clause-goes g c = moved_goes _ _ _ c.in-Some.ensures
