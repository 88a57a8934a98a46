use Rattle.std.proofs.Common.{length}
use Rattle.pg_talk.proofs.reply.+trimmed_start.Given as goal

abbrev pub decreases-trimmed_start : goal.decreases-trimmed_start
decreases-trimmed_start l = length l.text.now
