use Rattle.std.proofs.Common.{refl}
use Rattle.pg_book.proofs.Rows.{board-same}
use Rattle.pg_book.proofs.scenes.layout_of.Goals as goal

pub returns : goal.returns
returns c =
    let board = board-same c.args.chart c.page_look.result c.args.g.now.field
    c.in_ok-board.field-0.board c.page_look.ensures c.in_ok-board.ensures.board in
    rw (c.in_ok-courses.ensures, board) refl
