use Rattle.std.proofs.lemmas.Result.{on_ok_weaker}
use Rattle.pg_book_parts.proofs.Steps.{filled_two}
use Rattle.pg_book.proofs.sentences.push_weaker.Goals as goal

pub returns : goal.returns
returns c =
    let said = rw (c.as_str.ensures, c.in_ok-lead.ensures) at c.in_ok-push_words.ensures in
    on_ok_weaker c.push_close.result
    (filled_two c.args.pieces.now.items _ _ _ _ _ _ _ _ c.in_ok-push_open.ensures said
    c.in_ok-push_link.ensures)
    c.push_close.ensures
