use Rattle.std.proofs.lemmas.Result.{on_ok_weaker}
use Rattle.pg_book_parts.proofs.Steps.{filled_three}
use Rattle.pg_book.proofs.sentences.push_move.Goals as goal

pub returns : goal.returns
returns c =
    let strong = rw (c.as_str.ensures, c.in_ok-words.ensures) at c.in_ok-push_plain.ensures in
    on_ok_weaker c.push_close.result
    (filled_three c.args.pieces.now.items _ _ _ _ _ _ _ _ _ _ c.in_ok-push_open.ensures strong
    c.in_ok-push_words.ensures c.in_ok-push_link.ensures)
    c.push_close.ensures
