use Rattle.std.proofs.Common.{◌≡◌, ◌++◌, take}
use Rattle.std.specs.List.{flat_map}
use Rattle.pg_book.specs.Sentences.{reply_pieces}
use Rattle.pg_book.proofs.sentences.push_each_reply.Given as goal

abbrev pub invariant-loop-reply : goal.invariant-loop-reply
invariant-loop-reply l = l.pieces.items
    ≡ l.fn.pieces.items
    ++ flat_map (reply_pieces l.layout l.chapter) (take l.reply-index l.replies)
