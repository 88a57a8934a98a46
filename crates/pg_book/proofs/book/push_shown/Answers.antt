use Rattle.std.proofs.Common.{◌∙◌, ◌++◌, ap}
use Rattle.std.proofs.lemmas.Result.{on_ok_weaker}
use Rattle.pg_book_parts.proofs.Steps.{filled_two}
use Rattle.pg_book.specs.Books.{header_pieces}
use Rattle.pg_book.proofs.book.push_shown.Goals as goal

pub returns : goal.returns
returns c =
    let header = c.in_ok-push_header.ensures
    ∙ ap (λ claims. c.push_open.new.pieces.items
    ++ header_pieces c.args.g.now c.args.depth claims) c.as_slice.ensures in
    on_ok_weaker c.push_close.result
    (filled_two c.args.pieces.now.items _ _ _ _ _ _ _ _ c.in_ok-push_open.ensures header
    c.in_ok-push_main.ensures)
    c.push_close.ensures
