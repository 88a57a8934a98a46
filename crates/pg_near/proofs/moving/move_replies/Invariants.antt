use Rattle.std.proofs.Common.{◌≡◌, map, take}
use Rattle.pg_near.specs.Near.{moved_reply}
use Rattle.pg_near.proofs.moving.move_replies.Given as goal

abbrev pub invariant-loop-reply : goal.invariant-loop-reply
invariant-loop-reply l =
    l.copies.items ≡ map (moved_reply l.places) (take l.reply-index l.replies)
