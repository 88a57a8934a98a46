use Rattle.std.proofs.Common.{take, refl}
use Rattle.pg_talk.proofs.Common.{Heard, Skipped, Ended, INPUT_ENDED, NoNumber}
use Rattle.pg_talk.specs.Dialogue.{At, Owes, Over}
use Rattle.pg_talk.specs.Reply.{said_number}
use Rattle.pg_talk.specs.Talk.{answered}
use Rattle.pg_talk.proofs.Talking.{Talk-heard, Talks-then, Breaks-here}
use Rattle.pg_talk.proofs.dialogue.hear_reply.Goals as goal

pub returns-in-Ok-Line-clause-talk : goal.returns-in-Ok-Line-clause-talk
returns-in-Ok-Line-clause-talk g c =
    let old = g.P.Contestant.contender c.args.player.now in
    let heard = rw c.in-Ok-Line.field-0-is at c.in-Ok-Line.ensures.heard in
    let line = take c.in-Ok-Line.count c.hear.new.buf in
    let stage = λ (refused : _). answered old refused (said_number line) in
    λ refused. Talks-then old.contest old.side _ _ _ (At old.position refused)
    (stage refused) c.answer_line.result _
    (Talk-heard old.contest old.side _ _ _ heard.0 (Heard line) (At old.position refused)
    (stage refused) c.hear.auto.buf heard.1.1 (λ text e. cc e) heard.2 heard.3 (c.requires, refl))
    (c.answer_line.ensures.talk refused)

pub returns-in-Ok-Long-clause-talk : goal.returns-in-Ok-Long-clause-talk
returns-in-Ok-Long-clause-talk g c =
    let old = g.P.Contestant.contender c.args.player.now in
    let heard = rw c.in-Ok-Long.field-0-is at c.in-Ok-Long.ensures.heard in
    λ refused. Talks-then old.contest old.side _ _ _ (At old.position refused)
    (Owes old.position refused NoNumber) c.refuse.result _
    (Talk-heard old.contest old.side _ _ _ heard.0 (Skipped heard.1.0) (At old.position refused)
    (Owes old.position refused NoNumber) c.hear.auto.buf heard.1.1 (λ text e. cc e) heard.2 heard.3
    (c.requires, refl)) (c.refuse.ensures.talk old.contest old.side old.position refused)

pub returns-in-Ok-End-clause-talk : goal.returns-in-Ok-End-clause-talk
returns-in-Ok-End-clause-talk g c =
    let old = g.P.Contestant.contender c.args.player.now in
    let heard = rw c.in-Ok-End.field-0-is at c.in-Ok-End.ensures.heard in
    λ refused. Talk-heard old.contest old.side _ _ _ heard.0 Ended (At old.position refused)
    (Over old.position INPUT_ENDED) c.hear.auto.buf heard.1 (λ text e. cc e) heard.2 heard.3
    (c.requires, refl)

pub returns-in-Err-clause-talk : goal.returns-in-Err-clause-talk
returns-in-Err-clause-talk g c =
    let old = g.P.Contestant.contender c.args.player.now in
    λ refused. Breaks-here old.contest old.side _ _
    (At old.position refused) tt c.in-Err.ensures.heard
