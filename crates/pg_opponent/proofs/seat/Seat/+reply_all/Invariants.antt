use Rattle.std.proofs.Common.{length}
use Rattle.pg_opponent.proofs.seat.Seat.+reply_all.Given as goal

abbrev pub decreases-reply_all : goal.decreases-reply_all
decreases-reply_all l = length l.replies.now
