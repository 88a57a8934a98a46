use Rattle.std.proofs.Common.{◌≡◌, ◌++◌, take}
use Rattle.pg_book_parts.specs.Pictures.{rings_pieces}
use Rattle.pg_book_parts.proofs.over.push_rings.Given as goal

abbrev pub invariant-loop-reply : goal.invariant-loop-reply
invariant-loop-reply l = l.pieces.items
    ≡ l.fn.pieces.items
    ++ rings_pieces l.layout l.chapter (take l.reply-index l.replies)
