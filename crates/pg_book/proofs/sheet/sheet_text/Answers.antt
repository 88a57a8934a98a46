use Rattle.std.proofs.Common.{◌∙◌, ◌++◌, ap}
unfoldable use Rattle.pg_book.specs.Books.{sheet_text}
use Rattle.pg_book.specs.Books.{board_rule}
use Rattle.pg_book.specs.declared.sheet.TheConstants.{STYLE}
use Rattle.pg_book.proofs.sheet.sheet_text.Goals as goal

pub returns : goal.returns
unfolding sheet_text
returns c = c.from_string.ensures
    ∙ c.in_ok-put_board.ensures
    ∙ ap (λ xs. xs ++ board_rule c.as_str.result.now) c.in_ok-rules.ensures.ok
    ∙ ap (λ xs. STYLE.now ++ board_rule xs) (c.as_str.ensures.value ∙ c.in_ok-drawn.ensures)
