use Rattle.std.proofs.lemmas.Result.{on_ok_weaker}
use Rattle.pg_book_parts.proofs.Steps.{then_three}
use Rattle.pg_book.proofs.front.push_metas.Goals as goal

pub returns : goal.returns
returns c = on_ok_weaker c.push_meta-2.result
    (then_three c.args.pieces.now.items _ _ _ _ _ _ c.in_ok-push_charset.ensures
    c.in_ok-push_meta.ensures)
    c.push_meta-2.ensures
