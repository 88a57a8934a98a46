use Rattle.std.proofs.Common.{◌<◌, ℕ, map, get_or}
use Rattle.pg_check.proofs.Common.{FollowsMove, Reply, kept}
use Rattle.pg_check.specs.Present.{bare}
use Rattle.pg_check.proofs.moves.all_follow.Given as goal

abbrev pub invariant-loop-reply : goal.invariant-loop-reply
invariant-loop-reply l = (j : ℕ) (d : Reply) → j < l.reply-index
    → FollowsMove l.g (map bare (kept l.marks)) l.p (get_or l.replies j d).point
    (get_or l.replies j d).child
