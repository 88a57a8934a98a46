use Rattle.std.proofs.lemmas.Result.{on_ok_weaker}
use Rattle.pg_book_parts.proofs.Steps.{filled_three}
use Rattle.pg_book.proofs.front.push_head.Goals as goal

pub returns : goal.returns
returns c = on_ok_weaker c.push_close.result
    (filled_three c.args.pieces.now.items _ _ _ _ _ _ _ _ _ _ c.in_ok-push_open.ensures
    c.in_ok-push_metas.ensures c.in_ok-push_plain.ensures c.in_ok-push_sheet.ensures)
    c.push_close.ensures
