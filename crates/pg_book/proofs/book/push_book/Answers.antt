use Rattle.std.proofs.lemmas.Result.{on_ok_weaker}
use Rattle.pg_book_parts.proofs.Steps.{filled_two}
use Rattle.pg_book.proofs.book.push_book.Goals as goal

pub returns : goal.returns
returns c =
    let head = rw c.in_ok-board.ensures at c.in_ok-push_head.ensures in
    on_ok_weaker c.push_close.result
    (filled_two c.args.pieces.now.items _ _ _ _ _ _ _ _ c.in_ok-push_html.ensures head
    c.in_ok-push_shown.ensures)
    c.push_close.ensures
