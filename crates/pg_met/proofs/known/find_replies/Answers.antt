use Rattle.pg_met.proofs.KnownLemmas.{HaveReplies-more}
use Rattle.pg_met.proofs.known.find_replies.Goals as goal

pub loop-m-preserved : goal.loop-m-preserved
loop-m-preserved c = HaveReplies-more c.args.answer c.args.moves.now c.args.answers.now
    c.loop-m.replies.items c.push.new.self.items c.loop-m.m-index _ c.in-Some.node
    c.loop-m-test.true c.loop-m.invariant c.in-Some.ensures.some c.in_ok-push-in-Some.ensures.items
