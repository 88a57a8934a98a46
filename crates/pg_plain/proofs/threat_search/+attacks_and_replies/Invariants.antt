use Rattle.std.proofs.Common.{ℕ, ◌<◌, ◌+◌, ◌*◌, ◌-◌}
use Rattle.pg_plain.specs.Attacks.{IsReply, ReplyLeads}
use Rattle.pg_plain.proofs.threat_search.+attacks_and_replies.Given as goal

abbrev pub decreases-leads_within : goal.decreases-leads_within
decreases-leads_within l = 2 * l.depth

abbrev pub decreases-reply_leads : goal.decreases-reply_leads
decreases-reply_leads l = 2 * l.depth + 1

abbrev pub invariant-reply_leads-loop-u : goal.invariant-reply_leads-loop-u
invariant-reply_leads-loop-u l = (w : ℕ) → w < l.u → IsReply l.depth l.g l.p l.side l.v w → ⊥

abbrev pub invariant-leads_within-loop-v : goal.invariant-leads_within-loop-v
invariant-leads_within-loop-v l = (w : ℕ) → w < l.v → ReplyLeads (l.depth - 1) l.g l.p l.side w → ⊥
