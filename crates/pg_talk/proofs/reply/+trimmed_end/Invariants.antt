use Rattle.std.proofs.Common.{length}
use Rattle.pg_talk.proofs.reply.+trimmed_end.Given as goal

abbrev pub decreases-trimmed_end : goal.decreases-trimmed_end
decreases-trimmed_end l = length l.text.now
