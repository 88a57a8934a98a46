use Rattle.std.proofs.Common.{refl}
use Rattle.pg_talk.proofs.Common.{err_from_is_err_and, reply_text}
use Rattle.pg_talk.specs.Dialogue.{Owes, after_refusal}
use Rattle.pg_talk.proofs.Talking.{Talk-said, Breaks-here}
use Rattle.pg_talk.proofs.dialogue.refuse.Goals as goal

pub returns-in_err-say-clause-talk : goal.returns-in_err-say-clause-talk
returns-in_err-say-clause-talk g c =
    let e = err_from_is_err_and c.from_residual.result c.from_residual.ensures.1 in
    λ contest side p refused. rw e.1
    (Breaks-here contest side _ _ (Owes p refused c.args.fault) tt c.in_err-say.ensures.said)

pub returns-clause-talk : goal.returns-clause-talk
returns-clause-talk g c = λ contest side p refused. Talk-said contest side _ _
    (reply_text c.args.fault) (Owes p refused c.args.fault)
    (after_refusal p refused) c.in_ok-say.ensures.said c.in_ok-say.ensures.left (refl, refl)
