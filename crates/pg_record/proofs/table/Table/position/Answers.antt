use Rattle.std.proofs.Common.{◌∙◌, subst}
use Rattle.pg_record.specs.declared.table.Table.{Table}
use Rattle.pg_record.specs.Session.{IsBoardAfter, IsTableAfter}
use Rattle.pg_record.proofs.Boards.{board-position}
use Rattle.pg_record.proofs.table.Table.position.Goals as goal

pub returns-in-Lines : goal.returns-in-Lines
returns-in-Lines c =
    let fits : IsBoardAfter c.args.g.now c.args.moves.now c.in-Lines.board = subst
    (λ (t : Table). IsTableAfter c.args.g.now c.args.moves.now t) c.in-Lines.is c.requires.fits in
    c.position.ensures.exact ∙ board-position c.args.g.now c.args.moves.now c.in-Lines.board fits
