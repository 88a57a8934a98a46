use Rattle.std.proofs.Common.{get_or}
use Rattle.pg_leaf.proofs.Common.{slice_get-get_or, Reply}
use Rattle.pg_leaf.proofs.KeptNodes.{reply-renumbered}
use Rattle.pg_leaf.proofs.pruning.renumber_replies.Goals as goal

none : Reply
none = record { point = 0; child = 0 }

pub loop-r-preserved : goal.loop-r-preserved
unfolding none
loop-r-preserved c =
    let r = get_or c.args.replies.now c.loop-r.r-index none in
    let at = slice_get-get_or c.args.numbers.now r.child 0
    (c.requires c.loop-r.r-index none c.loop-r-test.true) in
    rw c.in_ok-push.ensures.items
    (reply-renumbered c.args.numbers.now c.args.replies.now c.loop-r.new.items c.loop-r.r-index
    (get_or c.args.numbers.now r.child 0) none c.loop-r-test.true at c.loop-r.invariant)
