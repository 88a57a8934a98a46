use Rattle.std.proofs.Common.{◌≡◌, ◌∙◌, ◌++◌, ap, string_bytes}
use Rattle.std.proofs.lemmas.Result.{IfOk-weaker}
use Rattle.pg_page.specs.Html.{page_text}
use Rattle.pg_book.specs.Boards.{layout_of}
use Rattle.pg_book.specs.Books.{book_by}
use Rattle.pg_book.proofs.book.print_ordered.Goals as goal

pub returns : goal.returns
returns c =
    let made : c.as_slice.result.now
    ≡ book_by c.args.game.now (layout_of c.args.chart c.args.game.now) c.args.depth
    c.args.cert.now =
    c.as_slice.ensures.value
    ∙ c.in_ok-push_book.ensures
    ∙ ap (λ xs. xs ++ book_by c.args.game.now c.in_ok-layout.layout c.args.depth c.args.cert.now)
    c.new-pieces.ensures.items
    ∙ ap (λ layout. book_by c.args.game.now layout c.args.depth c.args.cert.now)
    c.in_ok-layout.ensures in
    IfOk-weaker c.print_page.result (λ text. string_bytes text ≡ page_text c.as_slice.result.now)
    (λ text. string_bytes text
    ≡ page_text (book_by c.args.game.now (layout_of c.args.chart c.args.game.now) c.args.depth
    c.args.cert.now))
    (λ text is. is ∙ ap page_text made) c.print_page.ensures
