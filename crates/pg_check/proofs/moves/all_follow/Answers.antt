use Rattle.std.proofs.Common.{map, get_or}
use Rattle.pg_check.proofs.Common.{get_or_default, FollowsMove, Reply, kept}
use Rattle.pg_check.specs.Present.{bare}
use Rattle.pg_potential.proofs.LineMasks.{each-more}
use Rattle.pg_check.proofs.moves.all_follow.Goals as goal

pub loop-reply-preserved : goal.loop-reply-preserved
loop-reply-preserved c =
    let replies = c.args.replies.now in
    let i = c.loop-reply.reply-index in
    let none : Reply = record { point = 0; child = 0 } in
    let r : Reply = get_or replies i none in
    each-more (λ (q : Reply).
    FollowsMove c.args.g.now (map bare (kept c.args.marks.now)) c.args.p.now q.point q.child)
    replies i r c.loop-reply-test.true (get_or_default replies i none r c.loop-reply-test.true)
    (c.follows_move.ensures.0 c.if-not-follows_move.false) c.loop-reply.invariant
