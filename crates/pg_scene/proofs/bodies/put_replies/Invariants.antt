use Rattle.std.proofs.Common.{◌≡◌, ◌++◌, take}
use Rattle.std.specs.List.{flat_map}
use Rattle.pg_scene.specs.Items.{reply_item}
use Rattle.pg_scene.proofs.bodies.put_replies.Given as goal

abbrev pub invariant-loop-reply : goal.invariant-loop-reply
invariant-loop-reply l =
    l.items.items ≡ l.fn.items.items ++ flat_map (reply_item l.n) (take l.reply-index l.replies)
