use Rattle.std.proofs.Common.{◌≡◌, drop}
use Rattle.pg_book_parts.specs.Origins.{reply_origin}
use Rattle.pg_book_parts.proofs.origins.reply_origin.Given as goal

abbrev pub invariant-loop-reply : goal.invariant-loop-reply
invariant-loop-reply l = reply_origin l.node l.side l.child l.replies
    ≡ reply_origin l.node l.side l.child (drop l.reply-index l.replies)
