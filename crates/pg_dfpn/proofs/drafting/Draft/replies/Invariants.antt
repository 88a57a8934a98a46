use Rattle.pg_dfpn.proofs.Replying.{AreRepliesBelow}
use Rattle.pg_dfpn.proofs.drafting.Draft.replies.Given as goal

abbrev pub invariant-loop-v : goal.invariant-loop-v
invariant-loop-v l = AreRepliesBelow l.p l.v l.replies.items
