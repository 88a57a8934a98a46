use Rattle.std.proofs.lemmas.Result.{on_ok_weaker}
use Rattle.pg_book_parts.proofs.Steps.{filled, then_two}
use Rattle.pg_book.proofs.sentences.push_replies.Goals as goal

pub returns : goal.returns
returns c =
    let said = rw c.other.ensures at c.in_ok-push_doing.ensures in
    on_ok_weaker c.push_close.result
    (λ is. then_two c.args.pieces.now.items _ _ _ _ said
    (filled _ _ _ _ _ _ _ c.in_ok-push_open.ensures c.in_ok-push_each_reply.ensures is))
    c.push_close.ensures
