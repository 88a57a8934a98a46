use Rattle.pg_opponent.specs.Sitting.{sitting_of}
use Rattle.pg_opponent.proofs.Steps.{comes_first, first_and_others}
use Rattle.pg_opponent.proofs.seat.Seat.+reply_all.Goals as goal

pub returns-in_ok-reply-in-len1-up-clause-comes : goal.returns-in_ok-reply-in-len1-up-clause-comes
returns-in_ok-reply-in-len1-up-clause-comes t c =
    comes_first (sitting_of c.args.self.now) (sitting_of c.reply.new.self) _ c.args.replies.now _ _
    _ c.reply_all.result (first_and_others c.args.replies.now c.in-len1-up.len_at_least)
    c.in_ok-reply-in-len1-up.ensures.answered c.reply_all.ensures.comes
