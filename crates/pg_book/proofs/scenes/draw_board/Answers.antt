use Rattle.pg_book.proofs.Rows.{board-same}
use Rattle.pg_book.proofs.scenes.draw_board.Goals as goal

pub returns : goal.returns
returns c =
    let board = board-same c.args.chart c.page_look-look.result c.args.g.now.field
    c.in_ok-board.field-0.board c.page_look-look.ensures c.in_ok-board.ensures.board in
    rw (c.page_look-look.ensures, board, c.in_ok-items.ensures) at c.draw_items.ensures
