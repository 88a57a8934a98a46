use Rattle.std.proofs.Common.{subst, arith}
use Rattle.pg_record.specs.declared.table.Table.{Table}
use Rattle.pg_record.specs.Session.{IsBoardAfter, IsTableAfter}
use Rattle.pg_record.proofs.Boards.{board-plays, board-back}
use Rattle.pg_record.proofs.table.Table.undo.Goals as goal

pub undo-requires : goal.undo-requires
undo-requires c =
    let fits : IsBoardAfter c.args.g.now c.args.moves.now c.in-Lines.board = subst
    (λ (t : Table). IsTableAfter c.args.g.now c.args.moves.now t) c.in-Lines.is c.requires.fits in
    omega (arith, board-plays c.args.g.now c.args.moves.now c.in-Lines.board fits, c.requires.some)

pub returns-in-Lines : goal.returns-in-Lines
returns-in-Lines c =
    let fits : IsBoardAfter c.args.g.now c.args.moves.now c.in-Lines.board = subst
    (λ (t : Table). IsTableAfter c.args.g.now c.args.moves.now t) c.in-Lines.is c.requires.fits in
    board-back c.args.g.now c.args.moves.now c.in-Lines.board c.undo.new.self fits c.requires.some
    c.undo.ensures.game c.undo.ensures.earlier
